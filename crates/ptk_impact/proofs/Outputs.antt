-- A call leaves the output, or writes a byte after it.
use Rattle.std.proofs.Common.{◌≡◌, ℕ, Bool, true, false, List, [], ◌∷◌, ◌++◌, Option, Some, None, refl, sym, ◌∙◌, cond, append-nil}
use Rattle.std.specs.Prelude.{Result, Ok, Err, ◌%◌, option_map, unwrap_or}
use Rattle.ptk_words.specs.declared.calls.Call.{Call}
use Rattle.ptk_words.specs.declared.calls.Call.TheVariants as call
use Rattle.ptk_words.specs.declared.faults.Errno.{Errno}
use Rattle.ptk_words.specs.declared.faults.Errno.TheVariants.{EAGAIN}
use Rattle.ptk_words.specs.declared.threads.Cleanup.{Cleanup}
use Rattle.ptk_words.specs.declared.threads.Wait.{Wait}
use Rattle.ptk_words.specs.declared.threads.Wait.TheVariants.{InputWait, SleepWait, JoinWait, MutexWait, ConditionWait, RelockWait}
use Rattle.ptk_words_model.specs.declared.Invocation.{Invocation}
use Rattle.ptk_words_model.specs.State.{Locks, Part, with_console}
use Rattle.ptk_words_model.specs.Console.{is_full, with_output}
use Rattle.ptk_words_model.specs.Calls.{Answer, refusal, success, told, is_cancelled, cancellation_answer}
use Rattle.ptk_words_model.specs.Steps.{Row, valid}
use Rattle.ptk_words_model.specs.ThreadCalls.{after_placing, after_placing_at_tail, after_priority_change}
use Rattle.ptk_words_model.specs.Withdrawal.{after_cancelled_wait}
use Rattle.ptk_words_model.specs.ConsoleCalls.{console_put, take_input}
use Rattle.ptk_words_model.specs.CancellationCalls.{cleanup_pop_answer}
use Rattle.ptk_words_model.specs.CallTable.{answer_of, answer_to}

-- the row leaves the output
abbrev IsKeptBy : Row → Type 0
IsKeptBy row = (i : Invocation) (s : Part) → (row i s).part.console.output ≡ s.console.output

-- ---- changes of the state

pub either_part : (b : Bool) (x y : Part) (out : List ℕ) → x.console.output ≡ out → y.console.output ≡ out → (cond b x y).console.output ≡ out
either_part true x y out one other = one
either_part false x y out one other = other

placing_kept : (place : ℕ → Locks → Locks) (t : ℕ) (s : Part) → (after_placing place t s).console.output ≡ s.console.output
placing_kept place t s = search either_part

placing_at_tail_kept : (t : ℕ) (s : Part) → (after_placing_at_tail t s).console.output ≡ s.console.output
placing_at_tail_kept t s = search either_part

priority_kept : (old new t : ℕ) (s : Part) → (after_priority_change old new t s).console.output ≡ s.console.output
priority_kept old new t s = search either_part

cancelled_kept : (t : ℕ) (wait : Option Wait) (s : Part) → (after_cancelled_wait t wait s).console.output ≡ s.console.output
cancelled_kept t None s = refl
cancelled_kept t (Some InputWait) s = refl
cancelled_kept t (Some (SleepWait deadline)) s = refl
cancelled_kept t (Some (JoinWait u)) s = refl
cancelled_kept t (Some (MutexWait m deadline)) s = refl
cancelled_kept t (Some (ConditionWait c m deadline)) s = refl
cancelled_kept t (Some (RelockWait m reply)) s = refl

-- ---- steps

either_kept : (b : Bool) (x y : Answer) (out : List ℕ) → x.part.console.output ≡ out → y.part.console.output ≡ out → (cond b x y).part.console.output ≡ out
either_kept true x y out one other = one
either_kept false x y out one other = other

given_kept : {A : Type 0} (o : Option A) (next : A → Answer) (none : Answer) (out : List ℕ) → none.part.console.output ≡ out → ((a : A) → (next a).part.console.output ≡ out)
    → (unwrap_or (option_map next o) none).part.console.output ≡ out
given_kept None next none out one other = one
given_kept (Some a) next none out one other = other a

valid_kept : {A : Type 0} (found : Result A Errno) (rest : A → Row) (i : Invocation) (s : Part) → ((a : A) → (rest a i s).part.console.output ≡ s.console.output)
    → (valid found rest i s).part.console.output ≡ s.console.output
valid_kept (Ok a) rest i s kept = kept a
valid_kept (Err e) rest i s kept = refl

told_kept : (reply : Option ℕ) → IsKeptBy (told reply)
told_kept None i s = refl
told_kept (Some word) i s = refl

take_kept : (ring : List ℕ) → IsKeptBy (take_input ring)
take_kept [] i s = refl
take_kept (byte ∷ ring) i s = refl

pop_kept : (cleanups : List Cleanup) → IsKeptBy (cleanup_pop_answer cleanups)
pop_kept [] i s = refl
pop_kept (cleanup ∷ cleanups) i s = refl

ruleset changes = (placing_kept, placing_at_tail_kept, priority_kept, cancelled_kept)

ruleset steps = (either_kept, given_kept, valid_kept, told_kept, take_kept, pop_kept)

-- ---- the table

-- the later output is the earlier one and more
abbrev pub IsMore : List ℕ → List ℕ → Type 0
IsMore before after = (more : List ℕ) × (after ≡ before ++ more)

-- nothing more
pub is_kept : (before after : List ℕ) → after ≡ before → IsMore before after
is_kept before after same = ([], same ∙ sym (append-nil before))

either_written : (b : Bool) (out : List ℕ) (x y : Answer) → IsMore out x.part.console.output → IsMore out y.part.console.output → IsMore out (cond b x y).part.console.output
either_written true out x y one other = one
either_written false out x y one other = other

put_written : (i : Invocation) (s : Part) → IsMore s.console.output (console_put i s).part.console.output
put_written i s =
    let written : Answer = success [] i (with_console (with_output (i.a0 % 256)) s) in
    let none : IsMore s.console.output s.console.output = is_kept s.console.output s.console.output refl in
    either_written (is_cancelled s i.caller) s.console.output (cancellation_answer i s) (cond (is_full i.limits.output s.console) (refusal EAGAIN i s) written) none
    (either_written (is_full i.limits.output s.console) s.console.output (refusal EAGAIN i s) written none (i.a0 % 256 ∷ [], refl))

left : (row : Row) → IsKeptBy row → (i : Invocation) (s : Part) → IsMore s.console.output (row i s).part.console.output
left row kept i s = is_kept s.console.output (row i s).part.console.output (kept i s)

row_written : (c : Call) (i : Invocation) (s : Part) → IsMore s.console.output (answer_of c i s).part.console.output
row_written call.Exit i s = left (answer_of call.Exit) (λ i s. search (steps, changes)) i s
row_written call.ConsolePut i s = put_written i s
row_written call.ConsoleGet i s = left (answer_of call.ConsoleGet) (λ i s. search (steps, changes)) i s
row_written call.ClockGettime i s = left (answer_of call.ClockGettime) (λ i s. search (steps, changes)) i s
row_written call.ClockNanosleep i s = left (answer_of call.ClockNanosleep) (λ i s. search (steps, changes)) i s
row_written call.PthreadCreate i s = left (answer_of call.PthreadCreate) (λ i s. search (steps, changes)) i s
row_written call.PthreadExit i s = left (answer_of call.PthreadExit) (λ i s. search (steps, changes)) i s
row_written call.PthreadJoin i s = left (answer_of call.PthreadJoin) (λ i s. search (steps, changes)) i s
row_written call.PthreadDetach i s = left (answer_of call.PthreadDetach) (λ i s. search (steps, changes)) i s
row_written call.PthreadSelf i s = left (answer_of call.PthreadSelf) (λ i s. search (steps, changes)) i s
row_written call.SchedYield i s = left (answer_of call.SchedYield) (λ i s. search (steps, changes)) i s
row_written call.PthreadSetschedparam i s = left (answer_of call.PthreadSetschedparam) (λ i s. search (steps, changes)) i s
row_written call.PthreadGetschedparam i s = left (answer_of call.PthreadGetschedparam) (λ i s. search (steps, changes)) i s
row_written call.PthreadSetschedprio i s = left (answer_of call.PthreadSetschedprio) (λ i s. search (steps, changes)) i s
row_written call.MutexInit i s = left (answer_of call.MutexInit) (λ i s. search (steps, changes)) i s
row_written call.MutexDestroy i s = left (answer_of call.MutexDestroy) (λ i s. search (steps, changes)) i s
row_written call.MutexLock i s = left (answer_of call.MutexLock) (λ i s. search (steps, changes)) i s
row_written call.MutexTrylock i s = left (answer_of call.MutexTrylock) (λ i s. search (steps, changes)) i s
row_written call.MutexTimedlock i s = left (answer_of call.MutexTimedlock) (λ i s. search (steps, changes)) i s
row_written call.MutexUnlock i s = left (answer_of call.MutexUnlock) (λ i s. search (steps, changes)) i s
row_written call.MutexConsistent i s = left (answer_of call.MutexConsistent) (λ i s. search (steps, changes)) i s
row_written call.CondInit i s = left (answer_of call.CondInit) (λ i s. search (steps, changes)) i s
row_written call.CondDestroy i s = left (answer_of call.CondDestroy) (λ i s. search (steps, changes)) i s
row_written call.CondWait i s = left (answer_of call.CondWait) (λ i s. search (steps, changes) depth 12) i s
row_written call.CondTimedwait i s = left (answer_of call.CondTimedwait) (λ i s. search (steps, changes) depth 16) i s
row_written call.CondSignal i s = left (answer_of call.CondSignal) (λ i s. search (steps, changes)) i s
row_written call.CondBroadcast i s = left (answer_of call.CondBroadcast) (λ i s. search (steps, changes)) i s
row_written call.PthreadCancel i s = left (answer_of call.PthreadCancel) (λ i s. search (steps, changes)) i s
row_written call.PthreadSetcancelstate i s = left (answer_of call.PthreadSetcancelstate) (λ i s. search (steps, changes)) i s
row_written call.PthreadSetcanceltype i s = left (answer_of call.PthreadSetcanceltype) (λ i s. search (steps, changes)) i s
row_written call.PthreadTestcancel i s = left (answer_of call.PthreadTestcancel) (λ i s. search (steps, changes)) i s
row_written call.CleanupPush i s = left (answer_of call.CleanupPush) (λ i s. search (steps, changes)) i s
row_written call.CleanupPop i s = left (answer_of call.CleanupPop) (λ i s. search (steps, changes)) i s
row_written call.KeyCreate i s = left (answer_of call.KeyCreate) (λ i s. search (steps, changes)) i s
row_written call.KeyDelete i s = left (answer_of call.KeyDelete) (λ i s. search (steps, changes)) i s
row_written call.PthreadSetspecific i s = left (answer_of call.PthreadSetspecific) (λ i s. search (steps, changes)) i s
row_written call.PthreadGetspecific i s = left (answer_of call.PthreadGetspecific) (λ i s. search (steps, changes)) i s

-- the answer to any number
pub answer_written : (o : Option Call) (i : Invocation) (s : Part) → IsMore s.console.output (answer_to o i s).part.console.output
answer_written None i s = is_kept s.console.output s.console.output refl
answer_written (Some c) i s = row_written c i s
