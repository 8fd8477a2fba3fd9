-- Every call keeps the sizes of a state.
use Rattle.std.proofs.Common.{arith, ◌≡◌, ℕ, ◌≤◌, Bool, true, false, List, [], ◌∷◌, length, refl}
use Rattle.std.specs.Prelude.{not, Option, Some, None, Result, Ok, Err, if◌then◌else◌, unwrap_or, option_map}
use Rattle.ptk_words.specs.declared.faults.Errno.{Errno}
use Rattle.ptk_words.specs.declared.sections.Limits.{Limits}
use Rattle.ptk_words.specs.declared.calls.Call.{Call}
use Rattle.ptk_words.specs.declared.calls.Call.TheVariants as call
use Rattle.ptk_words.specs.declared.threads.Wait.{Wait}
use Rattle.ptk_words.specs.declared.threads.Wait.TheVariants.{InputWait}
use Rattle.ptk_words.specs.declared.threads.Cleanup.{Cleanup}
use Rattle.ptk_words_model.specs.State.{Part}
use Rattle.ptk_words_model.specs.Schedule.{at_tail, at_head}
use Rattle.ptk_words_model.specs.Withdrawal.{after_cancelled_wait}
use Rattle.ptk_words_model.specs.declared.Invocation.{Invocation}
use Rattle.ptk_words_model.specs.declared.Reply.{Reply}
use Rattle.ptk_words_model.specs.Calls.{Answer, is_pointer, refusal, success, told}
use Rattle.ptk_words_model.specs.ConsoleCalls.{take_input}
use Rattle.ptk_words_model.specs.ConditionCalls.{late_wait_answer}
use Rattle.ptk_words_model.specs.CancellationCalls.{cleanup_pop_answer}
use Rattle.ptk_words_model.specs.ThreadCalls.{after_placing, after_placing_at_tail, after_priority_change}
use Rattle.ptk_words_model.specs.Steps.{Row, valid, mutex_named, condition_named}
use Rattle.ptk_words_model.specs.CallTable.{answer_of, answer_to}
use Rattle.ptk_words_invariant.specs.Rests.{timedwait_named}
use Rattle.ptk_words_laws.specs.Sizes.{IsSized}
use Rattle.ptk_words_laws.proofs.Sizes.Kept.{kept}

-- the state of an answer
pub record Answered (l : Limits) (a : Answer) : Type 0 where
  pub part : IsSized l a.part

-- ---- a call's steps

pub either : (l : Limits) (b : Bool) (x y : Answer) → (b ≡ true → Answered l x) → (b ≡ false → Answered l y) → Answered l (if b then x else y)
either l true x y h k = h refl
either l false x y h k = k refl

pub given : {A : Type 0} (l : Limits) (o : Option A) (f : A → Answer) (x : Answer) → Answered l x → ((a : A) → Answered l (f a)) → Answered l (unwrap_or (option_map f o) x)
given l None f x h k = h
given l (Some a) f x h k = k a

pub valid_given : {A : Type 0} (l : Limits) (r : Result A Errno) (rest : A → Row) (i : Invocation) (s : Part) → ((e : Errno) → Answered l (refusal e i s)) → ((a : A) → Answered l (rest a i s)) → Answered l (valid r rest i s)
valid_given l (Ok a) rest i s h k = k a
valid_given l (Err e) rest i s h k = h e

pub replied : (l : Limits) (s : Part) (r : Reply) → IsSized l s → Answered l (record { part = s; reply = r })
replied l s r h = record { part = h }

pub told_sized : (l : Limits) (o : Option ℕ) (i : Invocation) (s : Part) → IsSized l s → Answered l (told o i s)
told_sized l None i s h = search kept depth 8
told_sized l (Some word) i s h = search (kept, replied) depth 8

pub success_sized : (l : Limits) (values : List ℕ) (i : Invocation) (s : Part) → IsSized l s → Answered l (success values i s)
success_sized l values i s h = search (kept, replied) depth 8

-- the mutex of a word that lies in memory, set up where the word is 0
pub mutex_sized : (l : Limits) (pointer : ℕ) (rest : ℕ → Row) (i : Invocation) (before s : Part) → not (is_pointer before pointer 4) ≡ false → IsSized l before → IsSized l s → ((m : ℕ) (u : Part) → IsSized l u → Answered l (rest m i u)) → Answered l (mutex_named pointer rest i s)
mutex_sized l pointer rest i before s within was h k = search (either, given, replied, kept, k) depth 16

pub condition_sized : (l : Limits) (pointer : ℕ) (rest : ℕ → Row) (i : Invocation) (before s : Part) → not (is_pointer before pointer 4) ≡ false → IsSized l before → IsSized l s → ((c : ℕ) (u : Part) → IsSized l u → Answered l (rest c i u)) → Answered l (condition_named pointer rest i s)
condition_sized l pointer rest i before s within was h k = search (either, given, replied, kept, k) depth 16

-- ---- moves

pub part_either : (l : Limits) (b : Bool) (x y : Part) → IsSized l x → IsSized l y → IsSized l (if b then x else y)
part_either l true x y h k = h
part_either l false x y h k = k

pub tail_sized : (l : Limits) (t : ℕ) (s : Part) → IsSized l s → IsSized l (after_placing at_tail t s)
tail_sized l t s h = search (kept, part_either) depth 8

pub head_sized : (l : Limits) (t : ℕ) (s : Part) → IsSized l s → IsSized l (after_placing at_head t s)
head_sized l t s h = search (kept, part_either) depth 8

pub placing_sized : (l : Limits) (t : ℕ) (s : Part) → IsSized l s → IsSized l (after_placing_at_tail t s)
placing_sized l t s h = search (tail_sized, part_either)

pub priority_sized : (l : Limits) (old new t : ℕ) (s : Part) → IsSized l s → IsSized l (after_priority_change old new t s)
priority_sized l old new t s h = search (placing_sized, head_sized, part_either)

pub ruleset rows = (mutex_sized, condition_sized, either, given, valid_given, replied, kept)

pub input_sized : (l : Limits) (ring : List ℕ) (i : Invocation) (s : Part) → length ring ≤ l.ring → IsSized l s → Answered l (take_input ring i s)
input_sized l [] i s le h = search rows depth 16
input_sized l (byte ∷ ring) i s le h = let less : length ring ≤ l.ring = omega arith in search rows depth 16

pub popped_sized : (l : Limits) (cleanups : List Cleanup) (i : Invocation) (s : Part) → IsSized l s → Answered l (cleanup_pop_answer cleanups i s)
popped_sized l [] i s h = search rows depth 16
popped_sized l (cleanup ∷ cleanups) i s h = search rows depth 16

pub cancelled_sized : (l : Limits) (t : ℕ) (wait : Option Wait) (s : Part) → IsSized l s → IsSized l (after_cancelled_wait t wait s)
cancelled_sized l t (Some InputWait) s h = search kept depth 8
cancelled_sized l t _ s h = search kept depth 8

late_sized : (l : Limits) (m : ℕ) (i : Invocation) (s : Part) → IsSized l s → Answered l (late_wait_answer m i s)
late_sized l m i s h = search (rows, told_sized) depth 16

timedwait_sized : (i : Invocation) (s : Part) → not (is_pointer s i.a0 4) ≡ false → not (is_pointer s i.a1 4) ≡ false → IsSized i.limits s → Answered i.limits (condition_named i.a0 (λ c. mutex_named i.a1 (timedwait_named c)) i s)
timedwait_sized i s condition mutex h =
    condition_sized i.limits i.a0 (λ c. mutex_named i.a1 (timedwait_named c)) i s s condition h h (λ c u k. mutex_sized i.limits i.a1 (timedwait_named c) i s u mutex h k (λ m v q. search (late_sized, rows) depth 16))

-- ---- the calls

pub ruleset moves = (input_sized, popped_sized, told_sized, success_sized, tail_sized, placing_sized, priority_sized, cancelled_sized)

answer_sized : (known : Call) (i : Invocation) (s : Part) → IsSized i.limits s → Answered i.limits (answer_of known i s)
answer_sized call.Exit i s h = search rows
answer_sized call.CondTimedwait i s h = search (timedwait_sized, rows) depth 16
answer_sized _ i s h = search (moves, rows) depth 16

pub call_sized : (o : Option Call) (i : Invocation) (s : Part) → IsSized i.limits s → Answered i.limits (answer_to o i s)
call_sized None i s h = search rows depth 16
call_sized (Some known) i s h = answer_sized known i s h
