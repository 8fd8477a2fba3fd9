-- A thread's cleanup handlers, with one pushed or taken off.
use Rattle.std.proofs.Common.{arith, ◌≡◌, ℕ, List, [], ◌∷◌, drop, refl, sym, ◌∙◌, ap}
use Rattle.std.specs.Prelude.{not, nat_lt, nat_le, Option, Some, None, option_map, unwrap_or, slice_get}
use Rattle.std.proofs.lemmas.Bool.Decides.{nat_tests}
use Rattle.ptk_words.specs.Pools.{numbered, pool_set}
use Rattle.ptk_words.specs.declared.faults.Errno.TheVariants.{EINVAL}
use Rattle.ptk_words.specs.declared.threads.Cleanup.{Cleanup}
use Rattle.ptk_words_model.specs.declared.Invocation.{Invocation}
use Rattle.ptk_words_model.specs.Calls.{refusal, success}
use Rattle.ptk_words_model.specs.CancellationCalls.{cleanup_pop_answer, cleanup_pop}
use Rattle.ptk_words_model.specs.State.{Part, with_cleanups}
use Rattle.ptk_words_model.specs.Unwinding.{cleanups_of}
use Rattle.ptk_words_invariant.proofs.Unwindings.{none_taken}

-- ---- a handler pushed

-- there is room, or the limit is reached
pub room_or_full : (n limit : ℕ) → nat_le limit n ≡ not (nat_lt n limit)
room_or_full n limit = grind (arith, nat_tests)

pub ruleset pushed = (room_or_full)

-- ---- the handler pushed last taken off

-- of several handlers the others are left
first_dropped_at : (t : ℕ) (o : Option (List Cleanup)) (stacks : List (List Cleanup)) (cleanup : Cleanup) (cleanups : List Cleanup) → unwrap_or o [] ≡ cleanup ∷ cleanups
    → unwrap_or (option_map (λ stack. pool_set stacks t (drop 1 stack)) o) stacks ≡ unwrap_or (option_map (λ _. pool_set stacks t cleanups) o) stacks
first_dropped_at t None stacks cleanup cleanups first = absurd (let no : ⊥ = cc in no)
first_dropped_at t (Some stack) stacks cleanup cleanups first = rw first refl

emptied_at : (handlers : List Cleanup) (i : Invocation) (s : Part) → slice_get handlers 0 ≡ None → cleanup_pop_answer handlers i s ≡ refusal EINVAL i s
emptied_at [] i s none = refl
emptied_at (cleanup ∷ cleanups) i s none = absurd (let no : ⊥ = cc in no)

-- call 45 of a caller with no handler: a refusal after none was taken off
pub emptied_is : (i : Invocation) (s : Part) → slice_get (cleanups_of s i.caller) 0 ≡ None → cleanup_pop i s ≡ refusal EINVAL i (with_cleanups i.caller (drop 1) s)
emptied_is i s none = emptied_at (cleanups_of s i.caller) i s none ∙ ap (refusal EINVAL i) (sym (none_taken i.caller s none))

taken_off_at : (handlers : List Cleanup) (cleanup : Cleanup) (i : Invocation) (s : Part) → cleanups_of s i.caller ≡ handlers → slice_get handlers 0 ≡ Some cleanup
    → cleanup_pop_answer handlers i s ≡ success (cleanup.routine ∷ cleanup.argument ∷ []) i (with_cleanups i.caller (drop 1) s)
taken_off_at [] cleanup i s e top = absurd (let no : ⊥ = cc in no)
taken_off_at (first ∷ cleanups) cleanup i s e top =
    let same : first ≡ cleanup = cc in
    rw same (ap (λ (stacks : List (List Cleanup)). success (cleanup.routine ∷ cleanup.argument ∷ []) i (record s { cleanups = stacks })) (sym (first_dropped_at i.caller (numbered s.cleanups i.caller) s.cleanups first cleanups e)))

-- call 45 of a caller with this handler on top
pub taken_off_is : (i : Invocation) (s : Part) (cleanup : Cleanup) → slice_get (cleanups_of s i.caller) 0 ≡ Some cleanup
    → cleanup_pop i s ≡ success (cleanup.routine ∷ cleanup.argument ∷ []) i (with_cleanups i.caller (drop 1) s)
taken_off_is i s cleanup top = taken_off_at (cleanups_of s i.caller) cleanup i s refl top

pub ruleset popped = (emptied_is, taken_off_is)
