-- A step and a decision leave the state whole.
use Rattle.std.proofs.Common.{◌≡◌, ℕ, ◌%◌, Bool, true, false, List, [], ◌∷◌, length, refl, ◌∙◌, ap, ◌++◌, ◌+◌}
use Rattle.std.specs.Prelude.{Option, Some, None, fold, nat_lt, if◌then◌else◌}
use Rattle.std.proofs.lemmas.Bool.{cond_both}
use Rattle.ptk_words.specs.Processor.{Processor, register}
use Rattle.ptk_words.specs.declared.TheConstants.{A0, A7, CANCELED}
use Rattle.ptk_words.specs.declared.faults.Cause.TheVariants as cause
use Rattle.ptk_words.specs.declared.faults.Status.TheVariants.{Exited, Stopped}
use Rattle.ptk_words.specs.declared.sections.Arrival.{Arrival}
use Rattle.ptk_words.specs.declared.sections.Limits.{Limits}
use Rattle.ptk_words.specs.declared.threads.Cleanup.{Cleanup}
use Rattle.ptk_words.specs.declared.threads.Phase.{Phase}
use Rattle.ptk_words.specs.declared.threads.Phase.TheVariants.{Normal, Unwinding, Ended}
use Rattle.ptk_words.specs.declared.threads.Thread.{Thread}
use Rattle.ptk_words_model.specs.Instructions.{Effect, Done, Call, Break, Fault, effect_at}
use Rattle.ptk_words_model.specs.declared.Runner.{Runner}
use Rattle.ptk_words_model.specs.declared.StepKind.{StepKind}
use Rattle.ptk_words_model.specs.declared.StepKind.TheVariants.{UnwindingStart, GateStep, CallStep, InstructionStep}
use Rattle.ptk_words_model.specs.State.{Part, with_cleanups, with_keys, with_console, with_halt}
use Rattle.ptk_words_model.specs.Priority.{thread_at}
use Rattle.ptk_words_model.specs.Keys.{DestructorCall, destructor_of, next_destructor, after_destructor_call}
use Rattle.ptk_words_model.specs.Unwinding.{after_unwinding_start, after_destructor_or_end, after_unwinding_move, cleanups_of, after_return, after_gate_step}
use Rattle.ptk_words_model.specs.Withdrawal.{after_expiries}
use Rattle.ptk_words_model.specs.Console.{arriving, without_arriving}
use Rattle.ptk_words_model.specs.Decision.{after_arrival_for, first_waiter, after_arrival, after_arrivals, runner_in, runner_of, step_kind, step_cost, with_thread_cpu, invocation, after_call, after_effect, after_step, entry_of, after_whole_step, Decision, after_turn, ready_at, after_decision}
use Rattle.ptk_words.specs.Faults.{is_active}
use Rattle.ptk_words_model.proofs.Runners.{number_at}
use Rattle.ptk_words_invariant.specs.Well.{IsWell}
use Rattle.ptk_words_sync_invariant.proofs.Lined.{ready_alive}
use Rattle.ptk_words_invariant.proofs.Threads.{well_cpu, well_routine_call}
use Rattle.ptk_words_invariant.proofs.Parts.{well_memory, well_last, well_halt}
use Rattle.ptk_words_invariant.proofs.Turns.{well_choice, well_interval}
use Rattle.ptk_words_invariant.proofs.Waits.{well_arrivals}
use Rattle.ptk_words_invariant.proofs.Unwindings.{well_cleanups, popped_within, well_destructor_call, well_unwinding_start}
use Rattle.ptk_words_invariant.proofs.Ends.{well_end}
use Rattle.ptk_words_invariant.proofs.Effects.{HasLength, effect_length}
use Rattle.ptk_words_invariant.proofs.Timeouts.{well_expiries, expiries_status}
use Rattle.ptk_words_invariant.proofs.Calls.{well_call}

-- ---- the return gate

destructor_or_end_at : (limits : Limits) (t : ℕ) (o : Option DestructorCall) (s : Part) → s.running ≡ Some t → IsWell limits s → IsWell limits (after_destructor_or_end t o s)
destructor_or_end_at limits t None s runs well = well_end limits t s runs well
destructor_or_end_at limits t (Some call) s runs well =
    well_routine_call limits t (destructor_of s.keys call.key) call.argument (with_keys (after_destructor_call t call) s) (well_destructor_call limits t call s well)

unwinding_move_at : (limits : Limits) (t : ℕ) (cleanups : List Cleanup) (s : Part) → cleanups_of s t ≡ cleanups → s.running ≡ Some t → IsWell limits s → IsWell limits (after_unwinding_move t cleanups s)
unwinding_move_at limits t [] s e runs well = destructor_or_end_at limits t (next_destructor s.keys t) s runs well
unwinding_move_at limits t (cleanup ∷ cleanups) s e runs well =
    well_routine_call limits t cleanup.routine cleanup.argument (with_cleanups t (λ _. cleanups) s)
    (well_cleanups limits t (λ _. cleanups) s (λ _ _. popped_within limits t cleanup cleanups s e well) well)

-- a handler or a destructor is called, or the thread ends
pub well_unwinding_move : (limits : Limits) (t : ℕ) (s : Part) → s.running ≡ Some t → IsWell limits s → IsWell limits (after_unwinding_move t (cleanups_of s t) s)
well_unwinding_move limits t s runs well = unwinding_move_at limits t (cleanups_of s t) s refl runs well

return_at : (limits : Limits) (t : ℕ) (thread : Thread) (s : Part) (b : Bool) → s.running ≡ Some t → IsWell limits s
    → IsWell limits (if b then with_halt (Exited (register thread.cpu A0 % 256)) s else after_unwinding_start t (register thread.cpu A0) s)
return_at limits t thread s true runs well = well_halt limits (Exited (register thread.cpu A0 % 256)) s well
return_at limits t thread s false runs well = well_unwinding_start limits t (register thread.cpu A0) s (ready_alive (thread_at s.locks t) (well.running_ready t runs)) well

pub well_return : (limits : Limits) (t : ℕ) (thread : Thread) (s : Part) → s.running ≡ Some t → IsWell limits s → IsWell limits (after_return t thread s)
well_return limits t thread s runs well = return_at limits t thread s thread.is_main runs well

pub well_gate_step : (limits : Limits) (phase : Phase) (t : ℕ) (thread : Thread) (s : Part) → s.running ≡ Some t → IsWell limits s → IsWell limits (after_gate_step phase t thread s)
well_gate_step limits Normal t thread s runs well = well_return limits t thread s runs well
well_gate_step limits Unwinding t thread s runs well = well_unwinding_move limits t s runs well
well_gate_step limits Ended t thread s runs well = well

-- ---- a step

pub well_after_call : (limits : Limits) (tick t : ℕ) (cpu : Processor) (s : Part) → s.running ≡ Some t → IsWell limits s → IsWell limits (after_call limits tick t cpu s)
well_after_call limits tick t cpu s runs well = well_call (register cpu A7) (invocation limits tick t cpu) s runs well

pub well_effect : (limits : Limits) (tick t pc : ℕ) (e : Effect) (s : Part) → HasLength (length s.memory) e → s.running ≡ Some t → IsWell limits s → IsWell limits (after_effect limits tick t pc e s)
well_effect limits tick t pc (Done cpu memory) s same runs well = well_cpu limits t cpu (record s { memory = memory }) (well_memory limits memory s same well)
well_effect limits tick t pc (Call cpu) s same runs well = well_after_call limits tick t cpu (with_thread_cpu t cpu s) runs (well_cpu limits t cpu s well)
well_effect limits tick t pc Break s same runs well = well_halt limits (Stopped cause.Break pc) s well
well_effect limits tick t pc (Fault kind) s same runs well = well_halt limits (Stopped (cause.Fault kind) pc) s well

pub well_step : (limits : Limits) (tick : ℕ) (r : Runner) (kind : StepKind) (s : Part) → s.running ≡ Some r.number → IsWell limits s → IsWell limits (after_step limits tick r kind s)
well_step limits tick r UnwindingStart s runs well = well_unwinding_start limits r.number CANCELED s (ready_alive (thread_at s.locks r.number) (well.running_ready r.number runs)) well
well_step limits tick r GateStep s runs well = well_gate_step limits r.thread.phase r.number r.thread s runs well
well_step limits tick r (CallStep number) s runs well =
    well_effect limits tick r.number r.thread.cpu.pc (effect_at r.thread.cpu s.memory) s (effect_length (length s.memory) r.thread.cpu s.memory refl) runs well
well_step limits tick r InstructionStep s runs well =
    well_effect limits tick r.number r.thread.cpu.pc (effect_at r.thread.cpu s.memory) s (effect_length (length s.memory) r.thread.cpu s.memory refl) runs well

pub well_whole_step : (limits : Limits) (tick : ℕ) (r : Runner) (kind : StepKind) (s : Part) → s.running ≡ Some r.number → IsWell limits s → IsWell limits (after_whole_step limits tick r kind s)
well_whole_step limits tick r kind s runs well =
    let after : Part = after_step limits tick r kind s in
    let thread : Option Thread = thread_at after.locks r.number in
    well_interval limits (step_cost kind) r.number thread (record after { last = Some (entry_of tick r kind s.memory thread) })
    (well_last limits (Some (entry_of tick r kind s.memory thread)) after (well_step limits tick r kind s runs well))

pub well_turn : (limits : Limits) (tick room : ℕ) (o : Option Runner) (s : Part) → ((r : Runner) → o ≡ Some r → s.running ≡ Some r.number) → IsWell limits s → IsWell limits (after_turn limits tick room o s)
well_turn limits tick room None s runs well = well
well_turn limits tick room (Some r) s runs well =
    let kind : StepKind = step_kind s r.number r.thread in
    cond_both (nat_lt room (step_cost kind)) _ _ (λ (d : Decision). IsWell limits d.part) (λ e. well) (λ e. well_whole_step limits tick r kind s (runs r refl) well)

-- ---- a decision

number_in : (running : Option ℕ) (s : Part) (r : Runner) → runner_in running s ≡ Some r → running ≡ Some r.number
number_in None s r e = absurd (let no : ⊥ = cc in no)
number_in (Some t) s r e = ap Some (number_at t (thread_at s.locks t) r e)

-- the runner is the running thread
pub runner_runs : (s : Part) (r : Runner) → runner_of s ≡ Some r → s.running ≡ Some r.number
runner_runs s r e = number_in s.running s r e

status_for : (o : Option ℕ) (limit byte : ℕ) (s : Part) → (after_arrival_for o limit byte s).status ≡ s.status
status_for None limit byte s = refl
status_for (Some t) limit byte s = refl

status_arrivals : (limit : ℕ) (arrivals : List Arrival) (s : Part) → (fold (after_arrival limit) s arrivals).status ≡ s.status
status_arrivals limit [] s = refl
status_arrivals limit (arrival ∷ arrivals) s = status_arrivals limit arrivals (after_arrival limit s arrival) ∙ status_for (first_waiter s) limit arrival.byte s

-- arrivals do not halt
pub arrivals_status : (limits : Limits) (tick : ℕ) (s : Part) → (after_arrivals limits tick s).status ≡ s.status
arrivals_status limits tick s = status_arrivals limits.ring (arriving tick s.console) (with_console (without_arriving tick) s)

pub well_ready : (limits : Limits) (tick : ℕ) (s : Part) → is_active s.status ≡ true → IsWell limits s → IsWell limits (ready_at limits tick s)
well_ready limits tick s active well =
    let arrived : Part = after_arrivals limits tick s in
    let expired : Part = after_expiries tick arrived in
    let still : is_active expired.status ≡ true = ap is_active (expiries_status tick arrived ∙ arrivals_status limits tick s) ∙ active in
    well_choice limits expired still (well_expiries limits tick arrived (well_arrivals limits tick s well))

-- a decision of an active partition
pub well_decision : (limits : Limits) (tick room : ℕ) (s : Part) → is_active s.status ≡ true → IsWell limits s → IsWell limits (after_decision limits tick room s)
well_decision limits tick room s active well =
    let ready : Part = ready_at limits tick s in
    well_turn limits tick room (runner_of ready) ready (runner_runs ready) (well_ready limits tick s active well)

-- ---- the input still to come

-- an arrival takes nothing from it
pub arrival_coming : (o : Option ℕ) (limit byte : ℕ) (s : Part) → (after_arrival_for o limit byte s).console.coming ≡ s.console.coming
arrival_coming (Some t) limit byte s = refl
arrival_coming None limit byte s = by (nat_lt (length s.console.ring) limit)
  where
    by : (b : Bool) → (if b then record (s.console) { ring = s.console.ring ++ byte ∷ [] } else record (s.console) { dropped = s.console.dropped + 1 }).coming ≡ s.console.coming
    by true = refl
    by false = refl
