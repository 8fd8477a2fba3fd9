-- The calls on cancellation and cleanup handlers leave the state whole.
use Rattle.std.proofs.Common.{◌≡◌, ℕ, ◌<◌, ◌≤◌, true, false, List, [], ◌∷◌, length, refl, ap, arith}
use Rattle.std.specs.Prelude.{Option, Some, ◌==◌, nat_lt, nat_le, unwrap_or, if◌then◌else◌}
use Rattle.std.proofs.lemmas.Bool.{leb-false}
use Rattle.ptk_words.specs.Pools.{numbered}
use Rattle.ptk_words.specs.declared.TheConstants.{CLEANUP_LIMIT}
use Rattle.ptk_words.specs.declared.faults.Errno.TheVariants.{ESRCH, EAGAIN, EINVAL}
use Rattle.ptk_words.specs.declared.threads.Cleanup.{Cleanup}
use Rattle.ptk_words.specs.Threads.{is_ended}
use Rattle.ptk_words_model.specs.declared.Invocation.{Invocation}
use Rattle.ptk_words_model.specs.State.{Part, with_cancellation, with_cleanups}
use Rattle.ptk_words_model.specs.Priority.{thread_at}
use Rattle.ptk_words_model.specs.Mutex.{wait_of}
use Rattle.ptk_words_model.specs.Unwinding.{cleanups_of}
use Rattle.ptk_words_model.specs.Withdrawal.{after_cancelled_wait}
use Rattle.ptk_words_model.specs.Calls.{success, is_cancelled}
use Rattle.ptk_words_model.specs.CancellationCalls.{cancel, cancellation_of, setcancelstate, setcanceltype, testcancel, cleanup_push, cleanup_pop_answer, cleanup_pop}
use Rattle.ptk_words_invariant.specs.Well.{IsWell}
use Rattle.ptk_words_invariant.proofs.Unwindings.{well_cancellation, well_cleanups, popped_within}
use Rattle.ptk_words_invariant.proofs.Withdrawals.{well_cancelled_in}
use Rattle.ptk_words_invariant.proofs.Steps.{well_refusal, well_success, either_well, well_when, well_given, Keeps}
use Rattle.ptk_words_invariant.proofs.TimeRows.{well_uncancelled}

-- ---- call 40: a request

pub well_cancel : Keeps cancel
well_cancel i s runs well =
    let asked : Part = with_cancellation i.a0 (λ c. record c { is_pending = true }) s in
    let pending : IsWell i.limits asked = well_cancellation i.limits i.a0 (λ c. record c { is_pending = true }) s well in
    well_given i.limits (thread_at s.locks i.a0) ESRCH _ i s well
    (λ target there. either_well i.limits (is_ended target.phase) (success [] i s) _
    (λ ended. well_success i.limits [] i s well)
    (λ lives. either_well i.limits (is_cancelled asked i.a0) (success [] i (after_cancelled_wait i.a0 target.wait asked)) (success [] i asked)
    (λ acts. well_success i.limits [] i (after_cancelled_wait i.a0 target.wait asked) (well_cancelled_in i.limits i.a0 target.wait asked (ap wait_of there) pending))
    (λ waits. well_success i.limits [] i asked pending)))

-- ---- calls 41 to 43: the state, the type and a point

pub well_setcancelstate : Keeps setcancelstate
well_setcancelstate i s runs well =
    let set : Part = with_cancellation i.caller (λ c. record c { is_enabled = i.a0 == 0 }) s in
    well_when i.limits EINVAL (nat_lt 1 i.a0) _ i s well
    (λ known. well_success i.limits ((if (cancellation_of s i.caller).is_enabled then 0 else 1) ∷ []) i set (well_cancellation i.limits i.caller (λ c. record c { is_enabled = i.a0 == 0 }) s well))

pub well_setcanceltype : Keeps setcanceltype
well_setcanceltype i s runs well =
    let set : Part = with_cancellation i.caller (λ c. record c { is_asynchronous = i.a0 == 1 }) s in
    well_when i.limits EINVAL (nat_lt 1 i.a0) _ i s well
    (λ known. well_success i.limits ((if (cancellation_of s i.caller).is_asynchronous then 1 else 0) ∷ []) i set (well_cancellation i.limits i.caller (λ c. record c { is_asynchronous = i.a0 == 1 }) s well))

pub well_testcancel : Keeps testcancel
well_testcancel i s runs well = well_uncancelled _ i s runs well (well_success i.limits [] i s well)

-- ---- calls 44 and 45: cleanup handlers

-- one handler more, where there is room
pub pushed_within : (t : ℕ) (cleanup : Cleanup) (s : Part) → nat_le CLEANUP_LIMIT (length (cleanups_of s t)) ≡ false → (cleanups : List Cleanup) → numbered s.cleanups t ≡ Some cleanups → length (cleanup ∷ cleanups) ≤ CLEANUP_LIMIT
pushed_within t cleanup s room cleanups e =
    let lt : length (cleanups_of s t) < CLEANUP_LIMIT = leb-false CLEANUP_LIMIT (length (cleanups_of s t)) room in
    let same : length (cleanups_of s t) ≡ length cleanups = ap (λ (o : Option (List Cleanup)). length (unwrap_or o [])) e in
    omega (arith, lt, same)

pub well_cleanup_push : Keeps cleanup_push
well_cleanup_push i s runs well =
    let cleanup : Cleanup = record { routine = i.a0; argument = i.a1 } in
    well_when i.limits EAGAIN (nat_le CLEANUP_LIMIT (length (cleanups_of s i.caller))) _ i s well
    (λ room. well_success i.limits [] i (with_cleanups i.caller (λ cleanups. cleanup ∷ cleanups) s)
    (well_cleanups i.limits i.caller (λ cleanups. cleanup ∷ cleanups) s (pushed_within i.caller cleanup s room) well))

cleanup_pop_at : (cleanups : List Cleanup) (i : Invocation) (s : Part) → cleanups_of s i.caller ≡ cleanups → IsWell i.limits s → IsWell i.limits (cleanup_pop_answer cleanups i s).part
cleanup_pop_at [] i s e well = well_refusal i.limits EINVAL i s well
cleanup_pop_at (cleanup ∷ cleanups) i s e well =
    well_success i.limits (cleanup.routine ∷ cleanup.argument ∷ []) i (with_cleanups i.caller (λ _. cleanups) s)
    (well_cleanups i.limits i.caller (λ _. cleanups) s (λ _ _. popped_within i.limits i.caller cleanup cleanups s e well) well)

pub well_cleanup_pop : Keeps cleanup_pop
well_cleanup_pop i s runs well = cleanup_pop_at (cleanups_of s i.caller) i s refl well
