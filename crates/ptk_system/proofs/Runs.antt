-- A run goes on: over ticks at which nothing is due, and by ticks of each partition's own.
use Rattle.std.proofs.Common.{◌≡◌, ℕ, ◌+◌, ◌-◌, ◌<◌, ◌≤◌, All, List, Some, length, sym, ap, subst, ◌∙◌, arith, get_or}
use Rattle.ptk_words.specs.declared.TheConstants.{LAST_TICK}
use Rattle.ptk_console.specs.ConsoleTable.{no_limits}
use Rattle.ptk_words.specs.declared.sections.Limits.{Limits}
use Rattle.ptk_words_model.specs.Windows.{WindowPlan, IsPlan, own_ticks}
use Rattle.ptk_words_model.proofs.FaultLaws.{accepted}
use Rattle.ptk_words_model.specs.State.{State}
use Rattle.ptk_words_laws.specs.Quiet.{after_ticks}
use Rattle.ptk_words_laws.proofs.TicksInARow.{alone_on}
use Rattle.ptk_system_machine.specs.Kept.{Kept, limits_at, part_at}
use Rattle.ptk_config.specs.Configuration.{Configuration, IsConfiguration}
use Rattle.ptk_image.specs.NamedFiles.{NamedFile}
use Rattle.ptk_system_machine.specs.Accounts.{IsBehind}
use Rattle.ptk_system_machine.specs.Steady.{AreSteady, IsStillBehindCall, states_from}
use Rattle.ptk_system_machine.specs.Turns.{IsPlainAt}
use Rattle.ptk_system_machine.specs.Whole.{Whole, AreWindowsOf, account_at, state_at}
use Rattle.ptk_system_machine.proofs.LastCalls.{call_eq}
use Rattle.ptk_system_machine.proofs.Steady.{steady_eq}
use Rattle.ptk_system.specs.Going.{StaysBehindCall}
use Rattle.ptk_system.specs.Missing.{image_in}
use Rattle.ptk_system.specs.World.{IsRun, World, alone_in, at_tick, section_at, state_of, world_of}
use Rattle.ptk_system.proofs.Bounds.{alone_behind}
use Rattle.ptk_system.proofs.Keeping.{get_or-states_to, run_told, state_kept, states_alone}

-- the plan of a configuration is one
pub is_plan : (config : Configuration) → IsConfiguration config → IsPlan config.plan
is_plan config is = (accepted config.plan.frame (length config.sections) config.plan.stages is.plan).0

-- the windows are the partitions'
pub windows_known : (config : Configuration) (files : List NamedFile) (whole : Whole) (tick : ℕ) → IsRun config files whole tick → AreWindowsOf (length whole.accounts) config.plan
windows_known config files whole tick run =
    let known : All (λ stage. All (λ w. w.partition < length config.sections) stage.windows) config.plan.stages =
    (accepted config.plan.frame (length config.sections) config.plan.stages run.configured.plan).1 in
    record {
      frame = run.configured.frame_to;
      known = subst (λ (n : ℕ). All (λ stage. All (λ w. w.partition < n) stage.windows) config.plan.stages) (sym run.parts) known;
    }

-- so many ticks are behind every partition
pub run_behind : (config : Configuration) (files : List NamedFile) (whole : Whole) (tick : ℕ) → IsRun config files whole tick → (p : ℕ) → p < length whole.accounts → IsBehind tick (state_at p whole)
run_behind config files whole tick run p lt =
    let within : p < length config.sections = subst (λ (n : ℕ). p < n) run.parts lt in
    subst (IsBehind tick) (sym (run.each p within))
    (alone_behind config.plan p (section_at config p).limits (image_in files (section_at config p).image) (section_at config p).input tick (is_plan config run.configured) run.configured.frame_to)

-- a partition alone goes on from a tick to a later one
pub alone_to : (config : Configuration) (files : List NamedFile) (p from to : ℕ) → from ≤ to
    → alone_in config files p to ≡ after_ticks (own_ticks config.plan p) (section_at config p).limits from (to - from) (alone_in config files p from)
alone_to config files p from to le =
    let at : to ≡ from + (to - from) = omega arith in
    ap (alone_in config files p) at ∙ alone_on (own_ticks config.plan p) (section_at config p).limits (image_in files (section_at config p).image) (section_at config p).input from (to - from)

-- ticks of each partition's own
run_each : (config : Configuration) (files : List NamedFile) (whole new : Whole) (tick t : ℕ) (plan : WindowPlan) → IsRun config files whole tick → tick ≤ t → plan ≡ config.plan
    → ((q : ℕ) → q < length whole.accounts → state_at q new ≡ after_ticks (own_ticks plan q) (limits_at q whole.kept) tick (t - tick) (state_at q whole))
    → (p : ℕ) → p < length config.sections → state_at p new ≡ alone_in config files p t
run_each config files whole new tick t plan run le same each p lt =
    let within : p < length whole.accounts = subst (λ (n : ℕ). p < n) (sym run.parts) lt in
    each p within
    ∙ (ap (λ (w : WindowPlan). after_ticks (own_ticks w p) (limits_at p whole.kept) tick (t - tick) (state_at p whole)) same
    ∙ (ap (λ (l : Limits). after_ticks (own_ticks config.plan p) l tick (t - tick) (state_at p whole)) (run.limits p lt)
    ∙ (ap (after_ticks (own_ticks config.plan p) (section_at config p).limits tick (t - tick)) (run.each p lt)
    ∙ sym (alone_to config files p tick t le))))

pub run_on : (config : Configuration) (files : List NamedFile) (whole new : Whole) (tick t : ℕ) (plan : WindowPlan) → IsRun config files whole tick → tick ≤ t → t ≤ LAST_TICK → plan ≡ config.plan
    → length new.accounts ≡ length whole.accounts → new.kept.limits ≡ whole.kept.limits
    → ((q : ℕ) → q < length whole.accounts → state_at q new ≡ after_ticks (own_ticks plan q) (limits_at q whole.kept) tick (t - tick) (state_at q whole))
    → IsRun config files new t
run_on config files whole new tick t plan run le early same count limits each =
    let now : (p : ℕ) → p < length config.sections → state_at p new ≡ alone_in config files p t = run_each config files whole new tick t plan run le same each in
    record {
      configured = run.configured;
      parts = count ∙ run.parts;
      sections = ap length limits ∙ run.sections;
      early = early;
      limits = λ p lt. ap (λ (ls : List Limits). get_or ls p no_limits) limits ∙ run.limits p lt;
      each = now;
      states = states_alone config files new t (count ∙ run.parts) now;
    }

-- the system that a run has come to
pub run_seen : (world : World) (config : Configuration) (files : List NamedFile) (whole new : Whole) (tick t : ℕ) → IsRun config files new t → world_of config files whole tick ≡ world
    → world_of config files new t ≡ at_tick t world
run_seen world config files whole new tick t run view = run_told config files new t run ∙ ap (at_tick t) view

-- a decision at the tick reached that is a plain step is one of the tables
pub plain_told : (config : Configuration) (files : List NamedFile) (whole : Whole) (tick : ℕ) (world : World) → IsRun config files whole tick → world_of config files whole tick ≡ world
    → ((p : ℕ) → p < length world.config.sections → (state_of world p).account.next ≡ Some world.tick → IsPlainAt (section_at world.config p).limits world.tick (state_of world p).part)
    → (q : ℕ) → q < length whole.accounts → (account_at q whole).account.next ≡ Some tick → IsPlainAt (limits_at q whole.kept) tick (part_at q whole.kept)
plain_told config files whole tick world run view plain q lt due =
    let own : (p : ℕ) → p < length config.sections → (state_of (world_of config files whole tick) p).account.next ≡ Some tick → IsPlainAt (section_at config p).limits tick (state_of (world_of config files whole tick) p).part =
    subst (λ (w : World). (p : ℕ) → p < length w.config.sections → (state_of w p).account.next ≡ Some w.tick → IsPlainAt (section_at w.config p).limits w.tick (state_of w p).part) (sym view) plain in
    let within : q < length config.sections = subst (λ (n : ℕ). q < n) run.parts lt in
    let here : state_of (world_of config files whole tick) q ≡ state_at q whole = get_or-states_to (λ p. state_at p whole) (length whole.accounts) q lt in
    let at : IsPlainAt (section_at config q).limits tick (state_of (world_of config files whole tick) q).part = own q within (ap (λ (s : State). s.account.next) here ∙ due) in
    subst (λ (l : Limits). IsPlainAt l tick (part_at q whole.kept)) (sym (run.limits q within))
    (subst (λ (s : State). IsPlainAt (section_at config q).limits tick s.part) here at)

-- the states that a partition of the system is in at later ticks are those that ticks of its own lead to in the tables
states_told : (config : Configuration) (files : List NamedFile) (whole : Whole) (tick : ℕ) (plan : WindowPlan) (world : World) → IsRun config files whole tick → plan ≡ config.plan → world_of config files whole tick ≡ world
    → (p : ℕ) → p < length world.config.sections → (k : ℕ) → tick ≤ k → state_of (at_tick k world) p ≡ states_from (own_ticks plan p) (limits_at p whole.kept) tick (state_at p whole) k
states_told config files whole tick plan world run same view =
    subst (λ (w : World). (p : ℕ) → p < length w.config.sections → (k : ℕ) → tick ≤ k → state_of (at_tick k w) p ≡ states_from (own_ticks plan p) (limits_at p whole.kept) tick (state_at p whole) k) view own
  where
    own : (p : ℕ) → p < length config.sections → (k : ℕ) → tick ≤ k → state_of (at_tick k (world_of config files whole tick)) p ≡ states_from (own_ticks plan p) (limits_at p whole.kept) tick (state_at p whole) k
    own p lt k le =
        get_or-states_to (λ q. alone_in config files q k) (length config.sections) p lt
        ∙ (alone_to config files p tick k le
        ∙ (ap (after_ticks (own_ticks config.plan p) (section_at config p).limits tick (k - tick)) (sym (run.each p lt))
        ∙ (ap (λ (l : Limits). after_ticks (own_ticks config.plan p) l tick (k - tick) (state_at p whole)) (sym (run.limits p lt))
        ∙ ap (λ (w : WindowPlan). after_ticks (own_ticks w p) (limits_at p whole.kept) tick (k - tick) (state_at p whole)) (sym same))))

-- a partition of the system is one of the tables
kept_of : (config : Configuration) (files : List NamedFile) (whole : Whole) (tick : ℕ) (world : World) (p : ℕ) → IsRun config files whole tick → world_of config files whole tick ≡ world → p < length world.config.sections → p < length whole.accounts
kept_of config files whole tick world p run view lt = subst (λ (n : ℕ). p < n) (sym (subst (λ (w : World). length whole.accounts ≡ length w.config.sections) view run.parts)) lt

-- ticks over which the threads of the tables stay as they are: so do those of the system
pub run_steady : (config : Configuration) (files : List NamedFile) (whole : Whole) (tick t : ℕ) (plan : WindowPlan) (world : World) → IsRun config files whole tick → plan ≡ config.plan → world_of config files whole tick ≡ world
    → ((q : ℕ) → q < length whole.accounts → AreSteady (part_at q whole.kept) (states_from (own_ticks plan q) (limits_at q whole.kept) tick (state_at q whole)) tick t)
    → (p : ℕ) → p < length world.config.sections → AreSteady (state_of world p).part (λ (k : ℕ). state_of (at_tick k world) p) world.tick t
run_steady config files whole tick t plan world run same view each p lt =
    let seen : AreSteady (part_at p whole.kept) (λ (k : ℕ). state_of (at_tick k world) p) tick t =
    steady_eq (part_at p whole.kept) (states_from (own_ticks plan p) (limits_at p whole.kept) tick (state_at p whole)) (λ (k : ℕ). state_of (at_tick k world) p) tick t
    (λ k le on. states_told config files whole tick plan world run same view p lt k le) (each p (kept_of config files whole tick world p run view lt)) in
    subst (λ (s : State). AreSteady s.part (λ (k : ℕ). state_of (at_tick k world) p) world.tick t) (state_kept config files whole tick world run view p lt)
    (subst (λ (from : ℕ). AreSteady (part_at p whole.kept) (λ (k : ℕ). state_of (at_tick k world) p) from t) (ap (λ (w : World). w.tick) view) seen)

-- ticks over which nothing happens to a partition of the tables behind a call: nor does it in the system
pub run_behind_call : (config : Configuration) (files : List NamedFile) (whole : Whole) (tick t : ℕ) (plan : WindowPlan) (world : World) → IsRun config files whole tick → plan ≡ config.plan → world_of config files whole tick ≡ world
    → ((q : ℕ) → q < length whole.accounts → IsStillBehindCall (states_from (own_ticks plan q) (limits_at q whole.kept) tick (state_at q whole)) tick t)
    → (p : ℕ) → p < length world.config.sections → StaysBehindCall world p t
run_behind_call config files whole tick t plan world run same view each p lt =
    subst (λ (from : ℕ). IsStillBehindCall (λ (k : ℕ). state_of (at_tick k world) p) from t) (ap (λ (w : World). w.tick) view)
    (call_eq (states_from (own_ticks plan p) (limits_at p whole.kept) tick (state_at p whole)) (λ (k : ℕ). state_of (at_tick k world) p) tick t
    (λ k le on. states_told config files whole tick plan world run same view p lt k le) (each p (kept_of config files whole tick world p run view lt)))

-- the trace keeps what the section says
pub trace_kept : (config : Configuration) (kept : Kept) (p count : ℕ) → count ≡ (limits_at p kept).trace → limits_at p kept ≡ (section_at config p).limits → count ≡ (section_at config p).limits.trace
trace_kept config kept p count e same = e ∙ ap (λ (l : Limits). l.trace) same

pub ruleset traces = (trace_kept)
