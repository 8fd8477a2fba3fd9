-- Calls 40 to 45: cancellation and cleanup handlers (pthread_cancel, pthread_setcancelstate, pthread_cleanup_push).
use Rattle.std.specs.Prelude.{true, List, [], ◌∷◌, length, ◌==◌, nat_lt, nat_le, if◌then◌else◌, unwrap_or}
use Rattle.ptk_words.specs.Names.{ThreadNumber}
use Rattle.ptk_words.specs.Pools.{numbered}
use Rattle.ptk_words.specs.declared.TheConstants.{CLEANUP_LIMIT}
use Rattle.ptk_words.specs.declared.faults.Errno.TheVariants.{EAGAIN, EINVAL}
use Rattle.ptk_words.specs.declared.threads.Cleanup.{Cleanup}
use Rattle.ptk_words_model.specs.declared.Cancellation.{Cancellation}
use Rattle.ptk_words_model.specs.State.{Part, with_cancellation, with_cleanups}
use Rattle.ptk_words_model.specs.Unwinding.{cleanups_of}
use Rattle.ptk_words.specs.Threads.{is_ended}
use Rattle.ptk_words_model.specs.Withdrawal.{after_cancelled_wait}
use Rattle.ptk_words_model.specs.ThreadCreation.{new_cancellation}
use Rattle.ptk_words_model.specs.Calls.{refusal, success, is_cancelled}
use Rattle.ptk_words_model.specs.Steps.{Row, ◌passed_to◌ as ◌>>=◌, ◌>>◌, registers, state, refuse◌when◌, when◌finish◌, cancellation_point, thread, change, succeed, succeed_with}

-- the request is pending, and takes a thread out of its wait where it acts (pthread_cancel, XSH 2.9.5.2)
abbrev pub cancel : Row
cancel = do
  i ← registers
  target ← thread i.a0
  when is_ended target.phase finish succeed
  change (with_cancellation i.a0 (λ c. record c { is_pending = true }))
  s ← state
  when is_cancelled s i.a0 finish (do change (after_cancelled_wait i.a0 target.wait); succeed)
  succeed

-- what the thread keeps of cancellation (XSH 2.9.5.1)
abbrev pub cancellation_of : Part → ThreadNumber → Cancellation
cancellation_of s t = unwrap_or (numbered s.cancellations t) new_cancellation

-- PTHREAD_CANCEL_ENABLE 0 and DISABLE 1; the old state in a1 (pthread_setcancelstate; own)
abbrev pub setcancelstate : Row
setcancelstate = do
  i ← registers
  s ← state
  refuse EINVAL when nat_lt 1 i.a0
  change (with_cancellation i.caller (λ c. record c { is_enabled = i.a0 == 0 }))
  succeed_with (if (cancellation_of s i.caller).is_enabled then 0 else 1)

-- PTHREAD_CANCEL_DEFERRED 0 and ASYNCHRONOUS 1; the old type in a1 (pthread_setcanceltype; own)
abbrev pub setcanceltype : Row
setcanceltype = do
  i ← registers
  s ← state
  refuse EINVAL when nat_lt 1 i.a0
  change (with_cancellation i.caller (λ c. record c { is_asynchronous = i.a0 == 1 }))
  succeed_with (if (cancellation_of s i.caller).is_asynchronous then 1 else 0)

-- a cancellation point (pthread_testcancel)
abbrev pub testcancel : Row
testcancel = do
  cancellation_point
  succeed

-- a handler on top of the caller's, which have a limit (pthread_cleanup_push; own, EAGAIN)
abbrev pub cleanup_push : Row
cleanup_push = do
  i ← registers
  s ← state
  refuse EAGAIN when nat_le CLEANUP_LIMIT (length (cleanups_of s i.caller))
  change (with_cleanups i.caller (λ cleanups. record { routine = i.a0; argument = i.a1 } ∷ cleanups))
  succeed

-- the handler pushed last, taken off (pthread_cleanup_pop; own, EINVAL)
abbrev pub cleanup_pop_answer : List Cleanup → Row
cleanup_pop_answer [] i s = refusal EINVAL i s
cleanup_pop_answer (cleanup ∷ cleanups) i s =
    success (cleanup.routine ∷ cleanup.argument ∷ []) i (with_cleanups i.caller (λ _. cleanups) s)

-- the handler pushed last, which guest code may call (pthread_cleanup_pop; own)
abbrev pub cleanup_pop : Row
cleanup_pop = do
  i ← registers
  s ← state
  cleanup_pop_answer (cleanups_of s i.caller)
