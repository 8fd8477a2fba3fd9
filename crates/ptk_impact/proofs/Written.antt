-- The output is never shortened: a decision leaves it, or writes a byte after it.
use Rattle.std.proofs.Common.{◌≡◌, ℕ, ◌-◌, Bool, true, false, List, [], ◌∷◌, Option, Some, None, refl, sym, subst, ◌∙◌, cond}
use Rattle.std.specs.Prelude.{fold, nat_lt}
use Rattle.std.proofs.lemmas.Bool.{cond_both}
use Rattle.ptk_words.specs.declared.TheConstants.{A7}
use Rattle.ptk_words.specs.declared.threads.Phase.{Phase}
use Rattle.ptk_words.specs.declared.threads.Phase.TheVariants.{Normal, Unwinding, Ended}
use Rattle.ptk_words.specs.declared.threads.Thread.{Thread}
use Rattle.ptk_words.specs.declared.threads.Wait.{Wait}
use Rattle.ptk_words.specs.declared.threads.Wait.TheVariants.{InputWait, SleepWait, JoinWait, MutexWait, ConditionWait, RelockWait}
use Rattle.ptk_words.specs.declared.threads.Cleanup.{Cleanup}
use Rattle.ptk_words.specs.declared.sections.Arrival.{Arrival}
use Rattle.ptk_words.specs.declared.sections.Limits.{Limits}
use Rattle.ptk_words.specs.Calls.{call_of}
use Rattle.ptk_words.specs.Processor.{register}
use Rattle.ptk_words_model.specs.Instructions.{Effect, Done, Call as Called, Break, Fault, effect_at}
use Rattle.ptk_words_model.specs.Windows.{OwnTicks}
use Rattle.ptk_words_model.specs.declared.Runner.{Runner}
use Rattle.ptk_words_model.specs.declared.StepKind.{StepKind}
use Rattle.ptk_words_model.specs.declared.StepKind.TheVariants.{UnwindingStart, GateStep, CallStep, InstructionStep}
use Rattle.ptk_words_model.specs.State.{Console, Part, State, with_console}
use Rattle.ptk_words_model.specs.Keys.{DestructorCall, next_destructor}
use Rattle.ptk_words_model.specs.Priority.{thread_at}
use Rattle.ptk_words_model.specs.Mutex.{wait_of}
use Rattle.ptk_words_model.specs.Schedule.{after_choice_between, after_interval, first_ready}
use Rattle.ptk_words_model.specs.Withdrawal.{Expiry, after_timeout, after_expiries, due, in_order}
use Rattle.ptk_words_model.specs.Unwinding.{after_end, after_destructor_or_end, after_unwinding_move, after_gate_step, cleanups_of}
use Rattle.ptk_words_model.specs.Console.{arriving, without_arriving}
use Rattle.ptk_words_model.specs.Decision.{after_arrival_for, after_arrival, after_arrivals, first_waiter, runner_of, with_thread_cpu, invocation, after_effect, after_step, entry_of, step_cost, step_kind, after_whole_step, Decision, after_turn, ready_at, after_decision}
use Rattle.ptk_words_model.specs.Run.{decided, is_at, after_tick_until}
use Rattle.ptk_impact.proofs.Outputs.{IsMore, is_kept, either_part, answer_written}

-- ---- before the turn

either_console : (b : Bool) (x y : Console) (out : List ℕ) → x.output ≡ out → y.output ≡ out → (cond b x y).output ≡ out
either_console true x y out one other = one
either_console false x y out one other = other

arrival_kept : (o : Option ℕ) (limit byte : ℕ) (s : Part) → (after_arrival_for o limit byte s).console.output ≡ s.console.output
arrival_kept None limit byte s = search either_console
arrival_kept (Some t) limit byte s = refl

arrivals_kept : (limit : ℕ) (arrivals : List Arrival) (s : Part) → (fold (after_arrival limit) s arrivals).console.output ≡ s.console.output
arrivals_kept limit [] s = refl
arrivals_kept limit (arrival ∷ arrivals) s = arrivals_kept limit arrivals (after_arrival limit s arrival) ∙ arrival_kept (first_waiter s) limit arrival.byte s

timeout_kept : (t : ℕ) (wait : Option Wait) (s : Part) → (after_timeout t wait s).console.output ≡ s.console.output
timeout_kept t None s = refl
timeout_kept t (Some InputWait) s = refl
timeout_kept t (Some (SleepWait deadline)) s = refl
timeout_kept t (Some (JoinWait u)) s = refl
timeout_kept t (Some (MutexWait m deadline)) s = refl
timeout_kept t (Some (ConditionWait c m deadline)) s = refl
timeout_kept t (Some (RelockWait m reply)) s = refl

-- the state after one expiry
abbrev expired : Part → Expiry → Part
expired s a = after_timeout a.thread (wait_of (thread_at s.locks a.thread)) s

expiries_kept : (expiries : List Expiry) (s : Part) → (fold expired s expiries).console.output ≡ s.console.output
expiries_kept [] s = refl
expiries_kept (a ∷ expiries) s = expiries_kept expiries (expired s a) ∙ timeout_kept a.thread (wait_of (thread_at s.locks a.thread)) s

choice_kept : (running first : Option ℕ) (s : Part) → (after_choice_between running first s).console.output ≡ s.console.output
choice_kept None None s = refl
choice_kept (Some r) None s = refl
choice_kept None (Some t) s = refl
choice_kept (Some r) (Some t) s = search either_part

-- arrivals, expiries and the choice leave the output
pub ready_kept : (limits : Limits) (tick : ℕ) (s : Part) → (ready_at limits tick s).console.output ≡ s.console.output
ready_kept limits tick s =
    let arrived : Part = after_arrivals limits tick s in
    let expired_by : Part = after_expiries tick arrived in
    choice_kept expired_by.running (first_ready expired_by.locks) expired_by
    ∙ (expiries_kept (in_order (due tick arrived)) arrived
    ∙ arrivals_kept limits.ring (arriving tick s.console) (with_console (without_arriving tick) s))

-- ---- the step

last_end_kept : (t : ℕ) (s : Part) → (after_end t s).console.output ≡ s.console.output
last_end_kept t s = search either_part

destructor_kept : (t : ℕ) (o : Option DestructorCall) (s : Part) → (after_destructor_or_end t o s).console.output ≡ s.console.output
destructor_kept t None s = last_end_kept t s
destructor_kept t (Some call) s = refl

unwinding_kept : (t : ℕ) (cleanups : List Cleanup) (s : Part) → (after_unwinding_move t cleanups s).console.output ≡ s.console.output
unwinding_kept t [] s = destructor_kept t (next_destructor s.keys t) s
unwinding_kept t (cleanup ∷ cleanups) s = refl

gate_kept : (phase : Phase) (t : ℕ) (thread : Thread) (s : Part) → (after_gate_step phase t thread s).console.output ≡ s.console.output
gate_kept Normal t thread s = search either_part
gate_kept Unwinding t thread s = unwinding_kept t (cleanups_of s t) s
gate_kept Ended t thread s = refl

effect_written : (limits : Limits) (tick t pc : ℕ) (effect : Effect) (s : Part) → IsMore s.console.output (after_effect limits tick t pc effect s).console.output
effect_written limits tick t pc (Done cpu memory) s = is_kept s.console.output s.console.output refl
effect_written limits tick t pc (Called cpu) s = answer_written (call_of (register cpu A7)) (invocation limits tick t cpu) (with_thread_cpu t cpu s)
effect_written limits tick t pc Break s = is_kept s.console.output s.console.output refl
effect_written limits tick t pc (Fault kind) s = is_kept s.console.output s.console.output refl

step_written : (limits : Limits) (tick : ℕ) (r : Runner) (kind : StepKind) (s : Part) → IsMore s.console.output (after_step limits tick r kind s).console.output
step_written limits tick r UnwindingStart s = is_kept s.console.output s.console.output refl
step_written limits tick r GateStep s =
    is_kept s.console.output (after_gate_step r.thread.phase r.number r.thread s).console.output (gate_kept r.thread.phase r.number r.thread s)
step_written limits tick r (CallStep number) s = effect_written limits tick r.number r.thread.cpu.pc (effect_at r.thread.cpu s.memory) s
step_written limits tick r InstructionStep s = effect_written limits tick r.number r.thread.cpu.pc (effect_at r.thread.cpu s.memory) s

pub interval_kept : (interval cost t : ℕ) (o : Option Thread) (s : Part) → (after_interval interval cost t o s).console.output ≡ s.console.output
interval_kept interval cost t None s = refl
interval_kept interval cost t (Some thread) s = search either_part

whole_written : (limits : Limits) (tick : ℕ) (r : Runner) (kind : StepKind) (s : Part) → IsMore s.console.output (after_whole_step limits tick r kind s).console.output
whole_written limits tick r kind s =
    let after : Part = after_step limits tick r kind s in
    let thread : Option Thread = thread_at after.locks r.number in
    let noted : Part = record after { last = Some (entry_of tick r kind s.memory thread) } in
    subst (IsMore s.console.output) (sym (interval_kept limits.interval (step_cost kind) r.number thread noted)) (step_written limits tick r kind s)

turn_written : (limits : Limits) (tick room : ℕ) (o : Option Runner) (s : Part) → IsMore s.console.output (after_turn limits tick room o s).console.output
turn_written limits tick room None s = is_kept s.console.output s.console.output refl
turn_written limits tick room (Some r) s =
    let kind : StepKind = step_kind s r.number r.thread in
    cond_both (nat_lt room (step_cost kind)) _ _ (λ (d : Decision). IsMore s.console.output d.part.console.output) (λ e. is_kept s.console.output s.console.output refl) (λ e. whole_written limits tick r kind s)

-- ---- the decision and the ticks

decision_written : (limits : Limits) (tick room : ℕ) (s : Part) → IsMore s.console.output (after_decision limits tick room s).console.output
decision_written limits tick room s =
    let ready : Part = ready_at limits tick s in
    subst (λ (before : List ℕ). IsMore before (after_decision limits tick room s).console.output) (ready_kept limits tick s) (turn_written limits tick room (runner_of ready) ready)

either_state : (b : Bool) (out : List ℕ) (x y : State) → IsMore out x.part.console.output → IsMore out y.part.console.output → IsMore out (cond b x y).part.console.output
either_state true out x y one other = one
either_state false out x y one other = other

-- a tick leaves the output, or writes a byte after it
pub tick_written : (o : Option ℕ) (ticks : OwnTicks) (limits : Limits) (tick : ℕ) (s : State) → IsMore s.part.console.output (after_tick_until o ticks limits tick s).part.console.output
tick_written None ticks limits tick s = is_kept s.part.console.output s.part.console.output refl
tick_written (Some end) ticks limits tick s =
    either_state (is_at tick s.account.next) s.part.console.output (decided ticks limits tick (end - tick) s) s
    (decision_written limits tick (end - tick) s.part) (is_kept s.part.console.output s.part.console.output refl)
