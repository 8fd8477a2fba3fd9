-- Every call leaves its caller what is in a7, and behind every step no thread runs but the one that made it.
use Rattle.std.proofs.Common.{◌≡◌, ℕ, Bool, true, false, List, [], ◌∷◌, refl, sym, subst}
use Rattle.std.specs.Prelude.{Option, Some, None, Result, Ok, Err, if◌then◌else◌, unwrap_or, option_map}
use Rattle.ptk_words.specs.Calls.{call_of}
use Rattle.ptk_words.specs.Pools.{pool_get}
use Rattle.ptk_words.specs.Processor.{Processor, register}
use Rattle.ptk_words.specs.declared.TheConstants.{A7}
use Rattle.ptk_words.specs.declared.calls.Call.{Call}
use Rattle.ptk_words.specs.declared.calls.Call.TheVariants as call
use Rattle.ptk_words.specs.declared.faults.Errno.{Errno}
use Rattle.ptk_words.specs.declared.sections.Limits.{Limits}
use Rattle.ptk_words.specs.declared.threads.Cleanup.{Cleanup}
use Rattle.ptk_words.specs.declared.threads.Phase.{Phase}
use Rattle.ptk_words.specs.declared.threads.Phase.TheVariants.{Normal, Unwinding, Ended}
use Rattle.ptk_words.specs.declared.threads.Thread.{Thread}
use Rattle.ptk_words.specs.declared.threads.Wait.{Wait}
use Rattle.ptk_words.specs.declared.threads.Wait.TheVariants.{InputWait}
use Rattle.ptk_words_model.specs.Instructions.{Effect, Done, Call as EnvironmentCall, Break, Fault, effect_at}
use Rattle.ptk_words_model.specs.declared.Invocation.{Invocation}
use Rattle.ptk_words_model.specs.declared.Reply.{Reply}
use Rattle.ptk_words_model.specs.declared.Runner.{Runner}
use Rattle.ptk_words_model.specs.declared.StepKind.{StepKind}
use Rattle.ptk_words_model.specs.declared.StepKind.TheVariants.{UnwindingStart, GateStep, CallStep, InstructionStep}
use Rattle.ptk_words_model.specs.State.{Part}
use Rattle.ptk_words_model.specs.Schedule.{at_tail, at_head, after_interval}
use Rattle.ptk_words_model.specs.Calls.{Answer, refusal, told}
use Rattle.ptk_words_model.specs.CancellationCalls.{cleanup_pop_answer}
use Rattle.ptk_words_model.specs.ConditionCalls.{late_wait_answer}
use Rattle.ptk_words_model.specs.ConsoleCalls.{take_input}
use Rattle.ptk_words_model.specs.Keys.{DestructorCall, next_destructor}
use Rattle.ptk_words_model.specs.ThreadCalls.{after_placing, after_placing_at_tail, after_priority_change}
use Rattle.ptk_words_model.specs.Steps.{Row, valid, mutex_named, condition_named}
use Rattle.ptk_words_model.specs.Unwinding.{after_end, after_destructor_or_end, after_unwinding_move, cleanups_of, after_gate_step}
use Rattle.ptk_words_model.specs.Withdrawal.{after_cancelled_wait}
use Rattle.ptk_words_model.specs.CallTable.{answer_of, answer_to}
use Rattle.ptk_words_model.specs.Decision.{after_call, after_effect, after_step, entry_of, invocation, step_cost, with_thread_cpu}
use Rattle.ptk_words_model.specs.Priority.{thread_at}
use Rattle.ptk_words.proofs.Pools.{changed_own}
use Rattle.ptk_words_invariant.specs.Rests.{timedwait_named}
use Rattle.ptk_words_laws.specs.Callers.{HasNumber, RunsNoOther, IsCaller, CallsKeepCallers, StepsKeepCallers, StepsRunNoOthers}
use Rattle.ptk_words_laws.proofs.Callers.Kept.{kept}

-- the caller in the state of an answer
pub record Answered (number t : ℕ) (a : Answer) : Type 0 where
  pub part : IsCaller number t a.part

-- ---- a call's steps

pub either : (number t : ℕ) (b : Bool) (x y : Answer) → Answered number t x → Answered number t y → Answered number t (if b then x else y)
either number t true x y h k = h
either number t false x y h k = k

pub given : {A : Type 0} (number t : ℕ) (o : Option A) (f : A → Answer) (x : Answer) → Answered number t x → ((a : A) → o ≡ Some a → Answered number t (f a)) → Answered number t (unwrap_or (option_map f o) x)
given number t None f x h k = h
given number t (Some a) f x h k = k a refl

pub valid_given : {A : Type 0} (number t : ℕ) (r : Result A Errno) (rest : A → Row) (i : Invocation) (s : Part) → ((e : Errno) → Answered number t (refusal e i s)) → ((a : A) → Answered number t (rest a i s)) → Answered number t (valid r rest i s)
valid_given number t (Ok a) rest i s h k = k a
valid_given number t (Err e) rest i s h k = h e

pub replied : (number t : ℕ) (s : Part) (r : Reply) → HasNumber number (pool_get s.threads t) → RunsNoOther t s.running → Answered number t (record { part = s; reply = r })
replied number t s r h runs = record { part = record { calls = h; runs = runs } }

pub told_kept : (number t : ℕ) (o : Option ℕ) (i : Invocation) (s : Part) → HasNumber number (pool_get s.threads t) → RunsNoOther t s.running → Answered number t (told o i s)
told_kept number t None i s h runs = search (kept, replied) depth 8
told_kept number t (Some word) i s h runs = search (kept, replied) depth 8

pub mutex_kept : (number t pointer : ℕ) (rest : ℕ → Row) (i : Invocation) (s : Part) → HasNumber number (pool_get s.threads t) → RunsNoOther t s.running
    → ((m : ℕ) (u : Part) → HasNumber number (pool_get u.threads t) → RunsNoOther t u.running → Answered number t (rest m i u)) → Answered number t (mutex_named pointer rest i s)
mutex_kept number t pointer rest i s h runs k = search (either, given, replied, kept, k) depth 16

pub condition_kept : (number t pointer : ℕ) (rest : ℕ → Row) (i : Invocation) (s : Part) → HasNumber number (pool_get s.threads t) → RunsNoOther t s.running
    → ((c : ℕ) (u : Part) → HasNumber number (pool_get u.threads t) → RunsNoOther t u.running → Answered number t (rest c i u)) → Answered number t (condition_named pointer rest i s)
condition_kept number t pointer rest i s h runs k = search (either, given, replied, kept, k) depth 16

-- ---- places

calls_either : (number t : ℕ) (b : Bool) (x y : Part) → HasNumber number (pool_get x.threads t) → HasNumber number (pool_get y.threads t) → HasNumber number (pool_get (if b then x else y).threads t)
calls_either number t true x y h k = h
calls_either number t false x y h k = k

runs_either : (t : ℕ) (b : Bool) (x y : Part) → RunsNoOther t x.running → RunsNoOther t y.running → RunsNoOther t (if b then x else y).running
runs_either t true x y h k = h
runs_either t false x y h k = k

pub tail_kept : (number t u : ℕ) (s : Part) → HasNumber number (pool_get s.threads t) → HasNumber number (pool_get (after_placing at_tail u s).threads t)
tail_kept number t u s h = search (kept, calls_either) depth 8

pub tail_runs : (t u : ℕ) (s : Part) → RunsNoOther t s.running → RunsNoOther t (after_placing at_tail u s).running
tail_runs t u s h = search (runs_either) depth 8

head_kept : (number t u : ℕ) (s : Part) → HasNumber number (pool_get s.threads t) → HasNumber number (pool_get (after_placing at_head u s).threads t)
head_kept number t u s h = search (kept, calls_either) depth 8

head_runs : (t u : ℕ) (s : Part) → RunsNoOther t s.running → RunsNoOther t (after_placing at_head u s).running
head_runs t u s h = search (runs_either) depth 8

pub placing_kept : (number t u : ℕ) (s : Part) → HasNumber number (pool_get s.threads t) → HasNumber number (pool_get (after_placing_at_tail u s).threads t)
placing_kept number t u s h = search (tail_kept, calls_either)

pub placing_runs : (t u : ℕ) (s : Part) → RunsNoOther t s.running → RunsNoOther t (after_placing_at_tail u s).running
placing_runs t u s h = search (tail_runs, runs_either)

pub priority_kept : (number t old new u : ℕ) (s : Part) → HasNumber number (pool_get s.threads t) → HasNumber number (pool_get (after_priority_change old new u s).threads t)
priority_kept number t old new u s h = search (placing_kept, head_kept, calls_either)

pub priority_runs : (t old new u : ℕ) (s : Part) → RunsNoOther t s.running → RunsNoOther t (after_priority_change old new u s).running
priority_runs t old new u s h = search (placing_runs, head_runs, runs_either)

pub cancelled_kept : (number t u : ℕ) (wait : Option Wait) (s : Part) → HasNumber number (pool_get s.threads t) → HasNumber number (pool_get (after_cancelled_wait u wait s).threads t)
cancelled_kept number t u (Some InputWait) s h = search kept depth 8
cancelled_kept number t u _ s h = search kept depth 8

pub cancelled_runs : (t u : ℕ) (wait : Option Wait) (s : Part) → RunsNoOther t s.running → RunsNoOther t (after_cancelled_wait u wait s).running
cancelled_runs t u (Some InputWait) s h = h
cancelled_runs t u _ s h = h

-- ---- the calls

pub ruleset rows = (mutex_kept, condition_kept, either, given, valid_given, replied, kept)

pub input_kept : (number t : ℕ) (ring : List ℕ) (i : Invocation) (s : Part) → HasNumber number (pool_get s.threads t) → RunsNoOther t s.running → Answered number t (take_input ring i s)
input_kept number t [] i s h runs = search rows depth 16
input_kept number t (byte ∷ ring) i s h runs = search rows depth 16

pub popped_kept : (number t : ℕ) (cleanups : List Cleanup) (i : Invocation) (s : Part) → HasNumber number (pool_get s.threads t) → RunsNoOther t s.running → Answered number t (cleanup_pop_answer cleanups i s)
popped_kept number t [] i s h runs = search rows depth 16
popped_kept number t (cleanup ∷ cleanups) i s h runs = search rows depth 16

pub late_kept : (number t m : ℕ) (i : Invocation) (s : Part) → HasNumber number (pool_get s.threads t) → RunsNoOther t s.running → Answered number t (late_wait_answer m i s)
late_kept number t m i s h runs = search (rows, told_kept) depth 16

pub ruleset moves = (input_kept, popped_kept, late_kept, told_kept, tail_kept, tail_runs, placing_kept, placing_runs, priority_kept, priority_runs, cancelled_kept, cancelled_runs)

timedwait_kept : (number : ℕ) (i : Invocation) (s : Part) → HasNumber number (pool_get s.threads i.caller) → RunsNoOther i.caller s.running → Answered number i.caller (condition_named i.a0 (λ c. mutex_named i.a1 (timedwait_named c)) i s)
timedwait_kept number i s h runs =
    condition_kept number i.caller i.a0 (λ c. mutex_named i.a1 (timedwait_named c)) i s h runs
    (λ c u k q. mutex_kept number i.caller i.a1 (timedwait_named c) i u k q (λ m v l w. search (late_kept, rows) depth 16))

answer_kept : (known : Call) (number : ℕ) (i : Invocation) (s : Part) → HasNumber number (pool_get s.threads i.caller) → RunsNoOther i.caller s.running → Answered number i.caller (answer_of known i s)
answer_kept call.Exit number i s h runs = search rows
answer_kept call.CondTimedwait number i s h runs = search (timedwait_kept, rows) depth 16
answer_kept _ number i s h runs = search (moves, rows) depth 16

pub calls_keep_callers : (part : Part) → CallsKeepCallers part
calls_keep_callers part = λ known i number caller. (answer_kept known number i part caller.calls caller.runs).part

-- ---- steps

called_kept : (o : Option Call) (number : ℕ) (i : Invocation) (s : Part) → HasNumber number (pool_get s.threads i.caller) → RunsNoOther i.caller s.running → Answered number i.caller (answer_to o i s)
called_kept None number i s h runs = search rows depth 8
called_kept (Some known) number i s h runs = answer_kept known number i s h runs

-- the registers of the thread are those of the call
own_number : (t : ℕ) (cpu : Processor) (s : Part) → (o : Option Thread) → pool_get (with_thread_cpu t cpu s).threads t ≡ option_map {T = Thread} (λ thread. record thread { cpu = cpu }) o → HasNumber (register cpu A7) (pool_get (with_thread_cpu t cpu s).threads t)
own_number t cpu s None e = subst (HasNumber (register cpu A7)) (sym e) tt
own_number t cpu s (Some thread) e = subst (HasNumber (register cpu A7)) (sym e) refl

ecall_kept : (limits : Limits) (tick t : ℕ) (cpu : Processor) (s : Part) → RunsNoOther t s.running → IsCaller (register cpu A7) t (after_call limits tick t cpu (with_thread_cpu t cpu s))
ecall_kept limits tick t cpu s h =
    let number : HasNumber (register cpu A7) (pool_get (with_thread_cpu t cpu s).threads t) = own_number t cpu s (pool_get s.threads t) (changed_own t (λ thread. record thread { cpu = cpu }) s.threads) in
    (called_kept (call_of (register cpu A7)) (register cpu A7) (invocation limits tick t cpu) (with_thread_cpu t cpu s) number h).part

pub steps_keep_callers : (part : Part) → StepsKeepCallers part
steps_keep_callers part = λ limits tick caller pc cpu runs. ecall_kept limits tick caller cpu part runs

-- ---- steps of every kind

end_runs : (t u : ℕ) (s : Part) → RunsNoOther t (after_end u s).running
end_runs t u s = search (runs_either) depth 8

destructor_runs : (t u : ℕ) (o : Option DestructorCall) (s : Part) → RunsNoOther t s.running → RunsNoOther t (after_destructor_or_end u o s).running
destructor_runs t u None s h = end_runs t u s
destructor_runs t u (Some call) s h = h

unwinding_runs : (t u : ℕ) (cleanups : List Cleanup) (s : Part) → RunsNoOther t s.running → RunsNoOther t (after_unwinding_move u cleanups s).running
unwinding_runs t u [] s h = destructor_runs t u (next_destructor s.keys u) s h
unwinding_runs t u (cleanup ∷ cleanups) s h = h

gate_step_runs : (phase : Phase) (t u : ℕ) (thread : Thread) (s : Part) → RunsNoOther t s.running → RunsNoOther t (after_gate_step phase u thread s).running
gate_step_runs Normal t u thread s h = search (runs_either) depth 8
gate_step_runs Unwinding t u thread s h = unwinding_runs t u (cleanups_of s u) s h
gate_step_runs Ended t u thread s h = h

effect_runs : (limits : Limits) (tick t pc : ℕ) (effect : Effect) (s : Part) → RunsNoOther t s.running → RunsNoOther t (after_effect limits tick t pc effect s).running
effect_runs limits tick t pc (Done cpu memory) s h = h
effect_runs limits tick t pc (EnvironmentCall cpu) s h = (ecall_kept limits tick t cpu s h).runs
effect_runs limits tick t pc Break s h = tt
effect_runs limits tick t pc (Fault kind) s h = tt

step_runs : (limits : Limits) (tick : ℕ) (r : Runner) (kind : StepKind) (s : Part) → RunsNoOther r.number s.running → RunsNoOther r.number (after_step limits tick r kind s).running
step_runs limits tick r UnwindingStart s h = h
step_runs limits tick r GateStep s h = gate_step_runs r.thread.phase r.number r.number r.thread s h
step_runs limits tick r (CallStep number) s h = effect_runs limits tick r.number r.thread.cpu.pc (effect_at r.thread.cpu s.memory) s h
step_runs limits tick r InstructionStep s h = effect_runs limits tick r.number r.thread.cpu.pc (effect_at r.thread.cpu s.memory) s h

interval_runs : (interval cost t : ℕ) (o : Option Thread) (s : Part) → RunsNoOther t s.running → RunsNoOther t (after_interval interval cost t o s).running
interval_runs interval cost t None s h = h
interval_runs interval cost t (Some thread) s h = search (runs_either) depth 8

pub steps_run_no_others : (part : Part) → StepsRunNoOthers part
steps_run_no_others part = λ limits tick r kind h.
    let after : Part = after_step limits tick r kind part in
    let thread : Option Thread = thread_at after.locks r.number in
    interval_runs limits.interval (step_cost kind) r.number thread (record after { last = Some (entry_of tick r kind part.memory thread) }) (step_runs limits tick r kind part h)
