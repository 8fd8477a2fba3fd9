-- Robust mutexes in built states, by the definitions of their calls: what becomes of them at their owners' ends.
use Rattle.std.specs.Prelude.{◌≡◌, true, List, [], ◌∷◌, map, Option, Some, None, option_map}
use Rattle.ptk_words.specs.Names.{ThreadNumber, Pointer, Word}
use Rattle.ptk_words.specs.declared.TheConstants.{A0, A1}
use Rattle.ptk_words.specs.declared.mutexes.MutexKind.TheVariants.{Normal}
use Rattle.ptk_words.specs.declared.mutexes.Protocol.TheVariants.{NoProtocol}
use Rattle.ptk_words.specs.declared.mutexes.Soundness.{Soundness}
use Rattle.ptk_words.specs.declared.mutexes.Soundness.TheVariants.{Consistent, Inconsistent, Unrecoverable}
use Rattle.ptk_words.specs.declared.mutexes.Owner.TheVariants.{Abandoned, OwnedBy}
use Rattle.ptk_words.specs.declared.threads.Wait.TheVariants.{MutexWait, RelockWait}
use Rattle.ptk_words_model.specs.declared.Reply.TheVariants.{Done, Blocked}
use Rattle.ptk_words_model.specs.declared.StepKind.TheVariants.{UnwindingStart}
use Rattle.ptk_words_model.specs.State.{Mutex, Part}
use Rattle.ptk_words_model.specs.Priority.{thread_at}
use Rattle.ptk_words_model.specs.Mutex.{new_mutex, mutex_at, wait_of, count_of, soundness_of}
use Rattle.ptk_words_model.specs.Withdrawal.{deadlines_of, after_expiries}
use Rattle.ptk_words_model.specs.Calls.{Answer, replied}
use Rattle.ptk_words_model.specs.ThreadCalls.{pthread_exit, join}
use Rattle.ptk_words_model.specs.MutexCalls.{mutex_init, mutex_destroy, mutex_lock, mutex_trylock, mutex_timedlock, mutex_unlock, mutex_consistent}
use Rattle.ptk_words_model.specs.ConditionCalls.{cond_wait, cond_timedwait, cond_signal}
use Rattle.ptk_words_model.specs.CancellationCalls.{cancel}
use Rattle.ptk_words_model.specs.Decision.{step_kind, after_decision}
use Rattle.ptk_words_laws.specs.Guests.{small, register_of}
use Rattle.ptk_words_laws.specs.Rows.States.{thread, part_with, placed, call_by, call_with, after_lock_by}

-- ---- built states

-- a robust NORMAL mutex of this soundness that the thread owns once, with these waiters
abbrev pub robust_owned : Soundness → ThreadNumber → List ThreadNumber → Option Mutex
robust_owned soundness t waiters =
    Some (record (new_mutex Normal NoProtocol true) { soundness = soundness; owner = OwnedBy t; count = 1; waiters = waiters })

-- a free robust NORMAL mutex of this soundness
abbrev pub robust_free : Soundness → Option Mutex
robust_free soundness = Some (record (new_mutex Normal NoProtocol true) { soundness = soundness })

-- 1 makes a mutex of this type, whose word stands at the pointer
abbrev pub after_init : Word → Pointer → Part → Part
after_init type pointer s = (mutex_init (call_with pointer type 0) s).part

-- four threads at 5, room for two mutexes, and these words in memory
abbrev pub four_threads : List Word → Part
four_threads words = part_with words (thread 5 ∷ thread 5 ∷ thread 5 ∷ thread 5 ∷ []) (None ∷ None ∷ [])

-- the thread runs alone, exits with 9 and takes its last step at tick 208
abbrev pub after_exit_of : ThreadNumber → Part → Part
after_exit_of t s = after_decision small 208 20 (pthread_exit (call_by t 9 0 0) (placed t [] s)).part

-- ---- owners that end

-- 1 makes mutex 1 of type 4 and locks it, then 2 locks it, and 1 ends
abbrev pub owner_died : Part
owner_died = after_exit_of 1 (after_lock_by 2 0 (after_lock_by 1 0 (after_init 4 0 (four_threads (0 ∷ [])))))

-- 2 makes the mutex consistent
abbrev pub repaired : Answer
repaired = mutex_consistent (call_by 2 0 0 0) owner_died

-- 2 unlocks it
abbrev pub repaired_unlocked : Answer
repaired_unlocked = mutex_unlock (call_by 2 0 0 0) repaired.part

-- a dead owner's robust mutex goes to its waiter, which is told and can make it consistent (pthread_mutex_lock, EOWNERDEAD; pthread_mutex_consistent)
pub record OwnerDied : Type 0 where
  pub owner : mutex_at owner_died.locks 1 ≡ robust_owned Inconsistent 2 []
  pub told : register_of owner_died 2 A0 ≡ Some 130
  pub woken : owner_died.line ≡ 2 ∷ []
  pub consistent : repaired.reply ≡ Done 0
  pub repaired_mutex : mutex_at repaired.part.locks 1 ≡ robust_owned Consistent 2 []
  pub unlocked : repaired_unlocked.reply ≡ Done 0
  pub free : mutex_at repaired_unlocked.part.locks 1 ≡ robust_free Consistent
  pub locked : (mutex_lock (call_by 3 0 0 0) repaired_unlocked.part).reply ≡ Done 0

-- 1 owns mutex 1 of type 4, for which 2 and 3 wait, and ends; 2 unlocks the mutex as it is
abbrev pub lost : Answer
lost = mutex_unlock (call_by 2 0 0 0) (after_exit_of 1 (after_lock_by 3 0 (after_lock_by 2 0 (after_lock_by 1 0 (after_init 4 0 (four_threads (0 ∷ 0 ∷ 0 ∷ 0 ∷ [])))))))

-- an inconsistent mutex that is unlocked is unrecoverable: its waiters leave without it and nobody locks it any more (pthread_mutex_consistent; pthread_mutex_lock, ENOTRECOVERABLE)
pub record UnrecoverableMutex : Type 0 where
  pub unlocked : lost.reply ≡ Done 0
  pub mutex : mutex_at lost.part.locks 1 ≡ robust_free Unrecoverable
  pub told : register_of lost.part 3 A0 ≡ Some 131
  pub waits : wait_of (thread_at lost.part.locks 3) ≡ None
  pub woken : lost.part.line ≡ 2 ∷ 3 ∷ []
  pub lock : (mutex_lock (call_by 4 0 0 0) lost.part).reply ≡ Done 131
  pub trylock : (mutex_trylock (call_by 4 0 0 0) lost.part).reply ≡ Done 131
  pub timedlock : (mutex_timedlock (call_by 4 0 4 0) lost.part).reply ≡ Done 131
  pub consistent : (mutex_consistent (call_by 4 0 0 0) lost.part).reply ≡ Done 22
  pub destroy : (mutex_destroy (call_by 4 0 0 0) lost.part).reply ≡ Done 0

-- 1 makes a mutex of this type and locks it, and makes it consistent
abbrev pub consistent_of_type : Word → Answer
consistent_of_type type = mutex_consistent (call_with 0 0 0) (after_lock_by 1 0 (after_init type 0 (four_threads (0 ∷ []))))

-- only an inconsistent robust mutex is made consistent, and only by its owner (pthread_mutex_consistent, EINVAL; own, EPERM)
pub record ConsistentRefusals : Type 0 where
  pub of_plain : (consistent_of_type 0).reply ≡ Done 22
  pub of_consistent : (consistent_of_type 4).reply ≡ Done 22
  pub by_another : (mutex_consistent (call_by 3 0 0 0) owner_died).reply ≡ Done 1
  pub type_3 : (mutex_init (call_with 0 3 0) (four_threads (0 ∷ []))).reply ≡ Done 22
  pub type_7 : (mutex_init (call_with 0 7 0) (four_threads (0 ∷ []))).reply ≡ Done 22

-- 1 makes a mutex of this type, locks it and ends; at 4 stands a time of 1,000,000,000 ns, which is none
abbrev pub left_behind : Word → Part
left_behind type = after_exit_of 1 (after_lock_by 1 0 (after_init type 0 (four_threads (0 ∷ 0 ∷ 0 ∷ 1000000000 ∷ []))))

-- 2 locks such a mutex of type 6 twice
abbrev pub counted_again : Answer
counted_again = mutex_lock (call_by 2 0 0 0) (after_lock_by 2 0 (left_behind 6))

-- 2 unlocks it once
abbrev pub counted_down : Answer
counted_down = mutex_unlock (call_by 2 0 0 0) counted_again.part

-- a free inconsistent mutex is locked with notice, by its owner once more without; the unlock that frees it loses it (pthread_mutex_lock, EOWNERDEAD)
pub record RecoveredLock : Type 0 where
  pub left_free : mutex_at (left_behind 4).locks 1 ≡ robust_free Inconsistent
  pub lock : (mutex_lock (call_by 2 0 0 0) (left_behind 4)).reply ≡ Done 130
  pub trylock : (mutex_trylock (call_by 2 0 0 0) (left_behind 4)).reply ≡ Done 130
  pub timedlock : (mutex_timedlock (call_by 2 0 4 0) (left_behind 4)).reply ≡ Done 130
  pub counts : counted_again.reply ≡ Done 0
  pub count : count_of (mutex_at counted_again.part.locks 1) ≡ 2
  pub count_once : count_of (mutex_at counted_down.part.locks 1) ≡ 1
  pub still_inconsistent : soundness_of (mutex_at counted_down.part.locks 1) ≡ Inconsistent
  pub lost : soundness_of (mutex_at (mutex_unlock (call_by 2 0 0 0) counted_down.part).part.locks 1) ≡ Unrecoverable

-- a mutex that is not robust stays locked when its owner ends, and nobody owns it (own)
pub record PlainOwnerDied : Type 0 where
  pub owner : option_map (λ mutex. mutex.owner) (mutex_at (left_behind 0).locks 1) ≡ Some Abandoned
  pub lock : (mutex_lock (call_by 2 0 0 0) (left_behind 0)).reply ≡ Blocked
  pub trylock : (mutex_trylock (call_by 2 0 0 0) (left_behind 0)).reply ≡ Done 16
  pub unlock : (mutex_unlock (call_by 2 0 0 0) (left_behind 0)).reply ≡ Done 1
  pub consistent : (mutex_consistent (call_by 2 0 0 0) (left_behind 0)).reply ≡ Done 22

-- ---- the deadline of an heir

-- 1 owns mutex 2, whose word stands at 4, and 2 mutex 1 of type 4; 3 waits for mutex 1 until tick 400, and 2 ends
abbrev pub timed_heir : Part
timed_heir =
    after_exit_of 2
    (mutex_timedlock (call_by 3 0 8 0)
    (after_lock_by 2 0 (after_lock_by 1 4 (after_init 4 0 (four_threads (0 ∷ 0 ∷ 0 ∷ 0 ∷ 400000 ∷ [])))))).part

-- 3 makes mutex 1 consistent
abbrev pub heir_repairs : Answer
heir_repairs = mutex_consistent (call_by 3 0 0 0) timed_heir

-- 3 unlocks it
abbrev pub heir_unlocks : Answer
heir_unlocks = mutex_unlock (call_by 3 0 0 0) heir_repairs.part

-- 3 locks mutex 2
abbrev pub heir_waits : Answer
heir_waits = mutex_lock (call_by 3 4 0 0) heir_unlocks.part

-- the deadline of a timed lock ends with its wait, and tears no later wait off (pthread_mutex_timedlock)
pub record DeadlineOfADeadOwnersWaiter : Type 0 where
  pub owner : mutex_at timed_heir.locks 1 ≡ robust_owned Inconsistent 3 []
  pub told : register_of timed_heir 3 A0 ≡ Some 130
  pub deadlines : deadlines_of timed_heir.locks ≡ None ∷ None ∷ None ∷ None ∷ []
  pub consistent : heir_repairs.reply ≡ Done 0
  pub unlocked : heir_unlocks.reply ≡ Done 0
  pub blocks : heir_waits.reply ≡ Blocked
  pub waits_on : wait_of (thread_at (after_expiries 400 heir_waits.part).locks 3) ≡ Some (MutexWait 2 None)
  pub owned_later : option_map (λ mutex. mutex.owner) (mutex_at (mutex_unlock (call_by 1 4 0 0) (after_expiries 400 heir_waits.part)).part.locks 2) ≡ Some (OwnedBy 3)
  pub told_later : register_of (mutex_unlock (call_by 1 4 0 0) (after_expiries 400 heir_waits.part)).part 3 A0 ≡ Some 0

-- ---- the order at an end

-- 2 owns mutexes 1 and 2 of type 4, 3 waits for mutex 2 and 4 for mutex 1, 1 joins 2, and 2 ends
abbrev pub two_heirs : Part
two_heirs =
    after_exit_of 2
    (join (call_with 2 0 0)
    (after_lock_by 4 0 (after_lock_by 3 4
    (after_lock_by 2 4 (after_lock_by 2 0 (after_init 4 4 (after_init 4 0 (four_threads (0 ∷ 0 ∷ []))))))))).part

-- mutexes go to their heirs in ascending number, before the joiner is woken (pthread_exit; own)
pub record HeirsBeforeJoiner : Type 0 where
  pub line : two_heirs.line ≡ 4 ∷ 3 ∷ 1 ∷ []
  pub told : map (λ t. register_of two_heirs t A0) (4 ∷ 3 ∷ 1 ∷ []) ≡ Some 130 ∷ Some 130 ∷ Some 0 ∷ []
  pub result : register_of two_heirs 1 A1 ≡ Some 9

-- ---- condition waiters

-- the thread locks the mutex whose word stands at 4, and waits with it on the condition variable whose word stands at 0
abbrev pub after_waiting_with : ThreadNumber → Part → Part
after_waiting_with t s = (cond_wait (call_by t 0 4 0) (after_lock_by t 4 s)).part

-- 1 makes mutex 1 of type 4, 2 waits with it on condition variable 1, and 3 locks it
abbrev pub waiting_and_owned : Part
waiting_and_owned = after_lock_by 3 4 (after_waiting_with 2 (after_init 4 4 (four_threads (0 ∷ 0 ∷ 0 ∷ 0 ∷ 0 ∷ []))))

-- 3 ends, and 1 signals the condition variable
abbrev pub signalled_after_death : Part
signalled_after_death = (cond_signal (call_with 0 0 0) (after_exit_of 3 waiting_and_owned)).part

-- a condition waiter that has a dead owner's mutex again is told (pthread_cond_wait, EOWNERDEAD)
pub record WaitOnDeadOwner : Type 0 where
  pub told : register_of signalled_after_death 2 A0 ≡ Some 130
  pub owner : mutex_at signalled_after_death.locks 1 ≡ robust_owned Inconsistent 2 []
  pub woken : signalled_after_death.line ≡ 2 ∷ []

-- 4 waits for the mutex of 3, which ends, and unlocks it as it is; then 1 signals the condition variable
abbrev pub signalled_after_loss : Part
signalled_after_loss =
    (cond_signal (call_with 0 0 0) (mutex_unlock (call_by 4 4 0 0) (after_exit_of 3 (after_lock_by 4 4 waiting_and_owned))).part).part

-- 4 has the mutex of 3, which ended, and waits with it until time 0
abbrev pub late_after_death : Answer
late_after_death = cond_timedwait (call_by 4 0 4 8) (after_exit_of 3 (after_lock_by 4 4 waiting_and_owned))

-- a re-lock of an unrecoverable mutex goes on without it (pthread_cond_wait, ENOTRECOVERABLE)
pub record WaitOnLostMutex : Type 0 where
  pub told : register_of signalled_after_loss 2 A0 ≡ Some 131
  pub mutex : mutex_at signalled_after_loss.locks 1 ≡ robust_free Unrecoverable
  pub woken : signalled_after_loss.line ≡ 4 ∷ 2 ∷ []
  pub late : late_after_death.reply ≡ Done 131
  pub late_mutex : mutex_at late_after_death.part.locks 1 ≡ robust_free Unrecoverable

-- ---- a cancelled heir

-- 2 waits with mutex 1, with 1032 in a0, and 3 owns it; 1 cancels 2
abbrev pub cancelled_before_death : Part
cancelled_before_death = (cancel (call_with 2 0 0) (replied 2 (1032 ∷ []) waiting_and_owned)).part

-- 3 ends
abbrev pub cancelled_heir : Part
cancelled_heir = after_exit_of 3 cancelled_before_death

-- 2 runs, begins its unwinding and ends
abbrev pub heir_ended : Part
heir_ended = after_decision small 216 16 (after_decision small 212 20 cancelled_heir)

-- a cancelled waiter that gets a dead owner's mutex is told nothing, and unwinds (XSH 2.9.5.2; own)
pub record CancelledHeir : Type 0 where
  pub waits : wait_of (thread_at cancelled_before_death.locks 2) ≡ Some (RelockWait 1 None)
  pub owner : mutex_at cancelled_heir.locks 1 ≡ robust_owned Inconsistent 2 []
  pub untold : register_of cancelled_heir 2 A0 ≡ Some 1032
  pub next_step : option_map (step_kind cancelled_heir 2) (thread_at cancelled_heir.locks 2) ≡ Some UnwindingStart
  pub left : mutex_at heir_ended.locks 1 ≡ robust_free Inconsistent
