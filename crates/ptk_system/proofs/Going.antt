-- Over which ticks each thread of a partition does what it did.
use Rattle.std.proofs.Common.{◌≡◌, ℕ, ◌+◌, ◌-◌, ◌<◌, ◌≤◌, Bool, true, false, List, [], length, refl, sym, ap, subst, ◌∙◌, eq-eqb, arith}
use Rattle.std.specs.Prelude.{Option, Some, None, option_map, if◌then◌else◌}
use Rattle.std.proofs.lemmas.Bool.{false≢true}
use Rattle.ptk_words.specs.Processor.{Processor}
use Rattle.ptk_words.specs.Threads.{is_ended, mutex_of_wait}
use Rattle.ptk_words.specs.declared.faults.Status.{Status}
use Rattle.ptk_words.specs.declared.sections.Limits.{Limits}
use Rattle.ptk_words.specs.declared.threads.Thread.{Thread}
use Rattle.ptk_words.specs.declared.threads.Wait.{Wait}
use Rattle.ptk_words_model.specs.Windows.{WindowPlan, own_ticks}
use Rattle.ptk_words_model.specs.State.{Part, State}
use Rattle.ptk_words_model.specs.Priority.{awaited, thread_at}
use Rattle.ptk_words.specs.Faults.{is_active}
use Rattle.ptk_words_model.specs.Schedule.{is_running}
use Rattle.ptk_words_sync_invariant.specs.Locks.{is_ready}
use Rattle.ptk_words_invariant.specs.Well.{IsWell}
use Rattle.ptk_system_machine.specs.Kept.{limits_at, part_at}
use Rattle.ptk_config.specs.Configuration.{Configuration, IsConfiguration}
use Rattle.ptk_image.specs.NamedFiles.{NamedFile}
use Rattle.ptk_system_machine.specs.Steady.{AreSteady, IsSteady, at_rest, states_from}
use Rattle.ptk_system_machine.specs.Whole.{Whole, state_at}
use Rattle.ptk_system.specs.declared.activity.Activity.TheVariants.{Blocked, Running, Ended, Halted}
use Rattle.ptk_system.specs.Activities.{activity_in, activity_of_number, activity_of_wait}
use Rattle.ptk_system.specs.Going.{DoTheSame, GoesOnAsIs}
use Rattle.ptk_system.specs.World.{IsRun, World, alone_in, at_tick, section_at, state_of, world_at, world_of}
use Rattle.ptk_system_machine.proofs.Steady.{awaited_contended, steady_start}
use Rattle.ptk_system_machine.proofs.Ticks.{not_due, still_on}
use Rattle.ptk_system.proofs.Keeping.{alone_at, alone_told}
use Rattle.ptk_system.proofs.Runs.{alone_to, run_steady}
use Rattle.ptk_system.proofs.Stays.{well_here}

-- ---- what is read of a thread

-- some registers, which none of it depends on
no_registers : Processor
no_registers = record { registers = []; pc = 0 }

activity_rest : (active runs : Bool) (cpu : Processor) (o : Option Thread) → activity_of_number active runs (option_map (at_rest cpu) o) ≡ activity_of_number active runs o
activity_rest active runs cpu None = refl
activity_rest active runs cpu (Some thread) = refl

level_rest : (cpu : Processor) (o : Option Thread) → option_map (λ (thread : Thread). thread.priority) (option_map (at_rest cpu) o) ≡ option_map (λ (thread : Thread). thread.priority) o
level_rest cpu None = refl
level_rest cpu (Some thread) = refl

-- a thread is blocked by its wait
blocked_by : (active runs ended : Bool) (o : Option Wait) (wait : Wait) → (if runs then Running else (if ended then Ended else (if active then activity_of_wait o else Halted))) ≡ Blocked wait → o ≡ Some wait
blocked_by active true ended o wait e = absurd (let no : ⊥ = cc in no)
blocked_by active false true o wait e = absurd (let no : ⊥ = cc in no)
blocked_by false false false o wait e = absurd (let no : ⊥ = cc in no)
blocked_by true false false None wait e = absurd (let no : ⊥ = cc in no)
blocked_by true false false (Some it) wait e = let same : it ≡ wait = cc in ap Some same

blocked_awaits : (active runs : Bool) (o : Option Thread) (wait : Wait) → activity_of_number active runs o ≡ Blocked wait → awaited o ≡ mutex_of_wait (Some wait)
blocked_awaits active runs None wait e = absurd (let no : ⊥ = cc in no)
blocked_awaits active runs (Some thread) wait e = ap mutex_of_wait (blocked_by active runs (is_ended thread.phase) thread.wait wait e)

-- ---- what stays

-- the threads of a steady partition do what they did
steady_does : (limits : Limits) (s after : Part) → IsWell limits s → IsSteady s after → DoTheSame s after
steady_does limits s after well steady = record {
  status = steady.status;
  dropped = steady.dropped;
  activities = λ t.
      sym (activity_rest (is_active after.status) (is_running t after.running) no_registers (thread_at after.locks t))
      ∙ (ap (activity_of_number (is_active after.status) (is_running t after.running)) (steady.threads t no_registers)
      ∙ (activity_rest (is_active after.status) (is_running t after.running) no_registers (thread_at s.locks t)
      ∙ (ap (λ (status : Status). activity_of_number (is_active status) (is_running t after.running) (thread_at s.locks t)) steady.status
      ∙ ap (λ (o : Option ℕ). activity_of_number (is_active s.status) (is_running t o) (thread_at s.locks t)) steady.running)));
  assigned = λ t.
      sym (level_rest no_registers (thread_at after.locks t))
      ∙ (ap (option_map (λ (thread : Thread). thread.priority)) (steady.threads t no_registers) ∙ level_rest no_registers (thread_at s.locks t));
  effective = steady.priorities;
  mutexes = λ t m wait blocked of.
      steady.mutexes m (awaited_contended limits s t m well (blocked_awaits (is_active s.status) (is_running t s.running) (thread_at s.locks t) wait blocked ∙ of));
}

in_use_runs : (active : Bool) (o : Option Thread) → is_ready o ≡ true → activity_of_number active true o ≡ Running
in_use_runs active None e = absurd (false≢true e)
in_use_runs active (Some thread) e = refl

-- the running thread is in use
runs_activity : (limits : Limits) (s : Part) (t : ℕ) → IsWell limits s → s.running ≡ Some t → activity_in t s ≡ Running
runs_activity limits s t well e =
    let runs : is_running t s.running ≡ true = ap (is_running t) e ∙ eq-eqb t t refl in
    ap (λ (b : Bool). activity_of_number (is_active s.status) b (thread_at s.locks t)) runs ∙ in_use_runs (is_active s.status) (thread_at s.locks t) (well.running_ready t e)

going : (world : World) (p to : ℕ) → IsConfiguration world.config → world ≡ world_at world.config world.files world.tick → p < length world.config.sections
    → AreSteady (state_of world p).part (λ (k : ℕ). state_of (at_tick k world) p) world.tick to → GoesOnAsIs world p to
going world p to is alone lt steady =
    let well : IsWell (section_at world.config p).limits (state_of world p).part = well_here world p is alone lt in
    record {
      threads = λ k le within. steady_does (section_at world.config p).limits (state_of world p).part (state_of (at_tick k world) p).part well (steady.parts k le within);
      lost = λ k le within. steady.lost k le within ∙ ap (λ (w : World). (state_of w p).account.lost) (sym alone);
      steps = λ k le before more entry last.
          let behind : IsSteady (state_of world p).part (state_of (at_tick (k + 1) world) p).part = steady.parts (k + 1) (omega (arith, le)) (omega (arith, before)) in
          runs_activity (section_at world.config p).limits (state_of world p).part entry.thread well (sym behind.running ∙ steady.steps k le before more entry last);
    }

-- of a run over ticks with which the threads of the tables stay as they are
pub run_going : (config : Configuration) (files : List NamedFile) (whole : Whole) (tick t : ℕ) (plan : WindowPlan) (world : World) → IsRun config files whole tick → plan ≡ config.plan → world_of config files whole tick ≡ world
    → ((q : ℕ) → q < length whole.accounts → AreSteady (part_at q whole.kept) (states_from (own_ticks plan q) (limits_at q whole.kept) tick (state_at q whole)) tick t)
    → (p : ℕ) → p < length world.config.sections → GoesOnAsIs world p t
run_going config files whole tick t plan world run same view each p lt =
    going world p t (subst (λ (w : World). IsConfiguration w.config) view run.configured) (alone_told config files whole tick world run view) lt (run_steady config files whole tick t plan world run same view each p lt)

-- no tick
pub here_going : (config : Configuration) (files : List NamedFile) (whole : Whole) (tick : ℕ) (world : World) → IsRun config files whole tick → world_of config files whole tick ≡ world
    → (p : ℕ) → p < length world.config.sections → GoesOnAsIs world p world.tick
here_going config files whole tick world run view p lt =
    subst (GoesOnAsIs world p) (ap (λ (w : World). w.tick) view)
    (run_going config files whole tick tick config.plan world run refl view (λ q within. steady_start (own_ticks config.plan q) (limits_at q whole.kept) tick (state_at q whole)) p lt)

-- up to a partition's next decision its state stays
pub undecided : (world : World) (p a b : ℕ) → p < length world.config.sections → a ≤ b → ((j : ℕ) → (state_of (at_tick a world) p).account.next ≡ Some j → b ≤ j) → state_of (at_tick b world) p ≡ state_of (at_tick a world) p
undecided world p a b lt le later =
    let s : State = alone_in world.config world.files p a in
    let here : state_of (at_tick a world) p ≡ alone_in world.config world.files p a = alone_at world.config world.files a p lt in
    alone_at world.config world.files b p lt
    ∙ (alone_to world.config world.files p a b le
    ∙ (still_on (own_ticks world.config.plan p) (section_at world.config p).limits a (b - a) (alone_in world.config world.files p a)
    (λ k from below. not_due (alone_in world.config world.files p a).account.next a b k (λ j at after. later j (ap (λ (u : State). u.account.next) here ∙ at)) from (omega (arith, below, le)))
    ∙ sym here))
