-- A decision with which nothing comes from outside leaves each thread that its step does not act on with the wait and the phase that it had.
use Rattle.std.proofs.Common.{◌≡◌, ◌≢◌, ℕ, false, [], Option, Some, None, ◌∙◌, refl, ap}
use Rattle.std.proofs.lemmas.Bool.{cond_both}
use Rattle.std.specs.Prelude.{fold, nat_lt}
use Rattle.ptk_words.specs.Pools.{pool_get}
use Rattle.ptk_words.specs.declared.sections.Limits.{Limits}
use Rattle.ptk_words.specs.declared.threads.Phase.{Phase}
use Rattle.ptk_words.specs.declared.threads.Thread.{Thread}
use Rattle.ptk_words.specs.declared.threads.Wait.{Wait}
use Rattle.ptk_words_model.specs.Instructions.{effect_at}
use Rattle.ptk_words_model.specs.declared.Runner.{Runner}
use Rattle.ptk_words_model.specs.declared.StepKind.{StepKind}
use Rattle.ptk_words_model.specs.declared.StepKind.TheVariants.{UnwindingStart, GateStep, CallStep, InstructionStep}
use Rattle.ptk_words_model.specs.State.{Part, with_console, with_locks}
use Rattle.ptk_words_model.specs.Console.{arriving, without_arriving}
use Rattle.ptk_words_model.specs.Mutex.{wait_of}
use Rattle.ptk_words_model.specs.Priority.{effective_priority, thread_at}
use Rattle.ptk_words_model.specs.Schedule.{after_choice, after_choice_between, after_dispatch, after_interval, at_head, first_ready}
use Rattle.ptk_words_model.specs.Withdrawal.{after_expiries, after_timeout, due, in_order}
use Rattle.ptk_words_model.specs.Decision.{Decision, after_arrival, after_arrivals, after_step, after_turn, entry_of, ready_at, runner_of, step_cost, step_kind}
use Rattle.ptk_words_laws.specs.Others.{DecisionsLeaveOthers, IsLeftBy, acts_on_others_by, standing}
use Rattle.ptk_words_laws.proofs.OtherThreads.{effect_kept, kept, part_either}

-- how the thread of a number stands in a state
abbrev stands : ℕ → Part → Option (Option Wait × Phase)
stands t s = standing (pool_get s.threads t)

-- ---- before the turn

choice_stands : (t : ℕ) (running first : Option ℕ) (s : Part) → stands t (after_choice_between running first s) ≡ stands t s
choice_stands t None None s = refl
choice_stands t (Some r) None s = refl
choice_stands t None (Some u) s = refl
choice_stands t (Some r) (Some u) s =
    part_either t (stands t s) (nat_lt (effective_priority s.locks r) (effective_priority s.locks u)) (after_dispatch u (with_locks (at_head r) s)) s refl refl

-- where nothing arrives and nothing expires only the thread that runs is chosen
chosen : (limits : Limits) (tick : ℕ) (s : Part) → arriving tick s.console ≡ [] → due tick s ≡ [] → ready_at limits tick s ≡ after_choice (with_console (without_arriving tick) s)
chosen limits tick s none_arrives none_expires =
    let start : Part = with_console (without_arriving tick) s in
    let arrived : after_arrivals limits tick s ≡ start = ap (fold (after_arrival limits.ring) start) none_arrives in
    let expired : after_expiries tick start ≡ start = ap (λ expiries. fold (λ (u : Part) a. after_timeout a.thread (wait_of (thread_at u.locks a.thread)) u) start (in_order expiries)) none_expires in
    ap (λ (u : Part). after_choice (after_expiries tick u)) arrived ∙ ap after_choice expired

ready_stands : (limits : Limits) (tick t : ℕ) (s : Part) → arriving tick s.console ≡ [] → due tick s ≡ [] → stands t (ready_at limits tick s) ≡ stands t s
ready_stands limits tick t s none_arrives none_expires =
    let start : Part = with_console (without_arriving tick) s in
    ap (stands t) (chosen limits tick s none_arrives none_expires) ∙ choice_stands t start.running (first_ready start.locks) start

-- ---- the turn

step_stands : (limits : Limits) (tick t : ℕ) (r : Runner) (kind : StepKind) (s : Part) → t ≢ r.number → acts_on_others_by kind r s.memory ≡ false → stands t (after_step limits tick r kind s) ≡ stands t s
step_stands limits tick t r UnwindingStart s differ alone = search kept depth 8
step_stands limits tick t r GateStep s differ alone = absurd (cc alone)
step_stands limits tick t r (CallStep number) s differ alone = effect_kept limits tick r.number r.thread.cpu.pc (effect_at r.thread.cpu s.memory) t s differ alone
step_stands limits tick t r InstructionStep s differ alone = effect_kept limits tick r.number r.thread.cpu.pc (effect_at r.thread.cpu s.memory) t s differ alone

interval_stands : (interval cost u t : ℕ) (o : Option Thread) (s : Part) → stands t (after_interval interval cost u o s) ≡ stands t s
interval_stands interval cost u t None s = refl
interval_stands interval cost u t (Some thread) s = search (part_either, kept) depth 10

turn_stands : (limits : Limits) (tick room t : ℕ) (o : Option Runner) (s : Part) → IsLeftBy t s o → stands t (after_turn limits tick room o s) ≡ stands t s
turn_stands limits tick room t None s left = refl
turn_stands limits tick room t (Some r) s left =
    let kind : StepKind = step_kind s r.number r.thread in
    let after : Part = after_step limits tick r kind s in
    let thread : Option Thread = thread_at after.locks r.number in
    cond_both (nat_lt room (step_cost kind)) _ _ (λ (d : Decision). stands t d.part ≡ stands t s) (λ e. refl)
    (λ e. interval_stands limits.interval (step_cost kind) r.number t thread (record after { last = Some (entry_of tick r kind s.memory thread) }) ∙ step_stands limits tick t r kind s left.0 left.1)

pub decisions_leave_others : (part : Part) → DecisionsLeaveOthers part
decisions_leave_others part = λ limits tick room t none_arrives none_expires left.
    turn_stands limits tick room t (runner_of (ready_at limits tick part)) (ready_at limits tick part) left ∙ ready_stands limits tick t part none_arrives none_expires
