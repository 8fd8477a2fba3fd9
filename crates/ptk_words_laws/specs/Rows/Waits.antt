-- Timed waits in built states, by the definitions of their calls.
use Rattle.std.specs.Prelude.{◌≡◌, [], ◌∷◌, Option, Some, None}
use Rattle.ptk_words.specs.Names.{ThreadNumber, Pointer}
use Rattle.ptk_words.specs.Words.{word_at}
use Rattle.ptk_words.specs.declared.TheConstants.{A0}
use Rattle.ptk_words.specs.declared.mutexes.Protocol.TheVariants.{NoProtocol}
use Rattle.ptk_words.specs.declared.threads.Wait.TheVariants.{MutexWait, RelockWait}
use Rattle.ptk_words_model.specs.declared.Reply.TheVariants.{Done, Blocked}
use Rattle.ptk_words_model.specs.State.{Mutex, Part, with_locks, locks_of}
use Rattle.ptk_words_model.specs.Priority.{thread_at}
use Rattle.ptk_words_model.specs.Mutex.{mutex_at, waiters_of, wait_of, after_unlock}
use Rattle.ptk_words_model.specs.Withdrawal.{deadlines_of, after_expiries}
use Rattle.ptk_words_model.specs.Calls.{Answer}
use Rattle.ptk_words_model.specs.MutexCalls.{mutex_lock, mutex_timedlock}
use Rattle.ptk_words_model.specs.TimeCalls.{clock_gettime, clock_nanosleep}
use Rattle.ptk_words_model.specs.ConditionCalls.{cond_wait, cond_timedwait, cond_signal}
use Rattle.ptk_words_model.specs.Run.{empty_part}
use Rattle.ptk_words_laws.specs.Guests.{small, register_of}
use Rattle.ptk_words_laws.specs.Rows.States.{thread, waiting, owned, free, counted, part_with, call_by, call_with}

-- ---- locks

-- thread 1 locks a mutex whose word is 0
abbrev pub first_lock : Answer
first_lock = mutex_lock (call_with 0 0 0) (part_with (0 ∷ []) (thread 5 ∷ []) (None ∷ []))

-- a lock of a word 0 sets the mutex up, and the word is then its number; a pool without mutexes has no room, and the word stays 0 (PTHREAD_MUTEX_INITIALIZER; own, ENOMEM)
pub record FirstLock : Type 0 where
  pub done : first_lock.reply ≡ Done 0
  pub word : word_at first_lock.part.memory 0 ≡ 1
  pub owner : mutex_at first_lock.part.locks 1 ≡ owned NoProtocol 1 []
  pub no_room : (mutex_lock (call_with 0 0 0) (part_with (0 ∷ []) (thread 5 ∷ []) [])).reply ≡ Done 12
  pub no_word : word_at (mutex_lock (call_with 0 0 0) (part_with (0 ∷ []) (thread 5 ∷ []) [])).part.memory 0 ≡ 0

-- a timed lock of this mutex 1, with its word at 0 and at 4 a time of 1,000,000,000 ns, which is none
abbrev pub bad_time : Option Mutex → Answer
bad_time mutex = mutex_timedlock (call_with 0 4 0) (part_with (1 ∷ 0 ∷ 0 ∷ 1000000000 ∷ []) (thread 5 ∷ thread 5 ∷ []) (mutex ∷ []))

-- a bad time is refused only where the lock would block (pthread_mutex_timedlock, EINVAL)
pub record BadNanosecondsOrder : Type 0 where
  pub of_free : (bad_time (free NoProtocol)).reply ≡ Done 0
  pub of_another : (bad_time (owned NoProtocol 2 [])).reply ≡ Done 22

-- a timed lock of another's mutex, until time 0
abbrev pub late_lock : Answer
late_lock = mutex_timedlock (call_with 0 4 0) (part_with (1 ∷ 0 ∷ 0 ∷ 0 ∷ []) (thread 5 ∷ thread 5 ∷ waiting 5 (MutexWait 1 None) ∷ []) (owned NoProtocol 2 (3 ∷ []) ∷ []))

-- a deadline already reached is refused, and the waiters stay (pthread_mutex_timedlock, ETIMEDOUT)
pub record ExpiredTimedlock : Type 0 where
  pub refused : late_lock.reply ≡ Done 110
  pub waiters : waiters_of (mutex_at late_lock.part.locks 1) ≡ 3 ∷ []

-- ---- condition waits

-- 1 owns mutex 1, for which 2 waits, and waits on a condition variable until time 0
abbrev pub late_wait : Answer
late_wait =
    cond_timedwait (call_with 0 4 8)
    (part_with (0 ∷ 1 ∷ 0 ∷ 0 ∷ 0 ∷ []) (thread 5 ∷ waiting 5 (MutexWait 1 None) ∷ []) (owned NoProtocol 1 (2 ∷ []) ∷ []))

-- a wait whose deadline is already reached releases the mutex all the same, and has it again before it is told (pthread_cond_timedwait)
pub record ExpiredWaitReleases : Type 0 where
  pub blocks : late_wait.reply ≡ Blocked
  pub released : mutex_at late_wait.part.locks 1 ≡ owned NoProtocol 2 (1 ∷ [])
  pub waits : wait_of (thread_at late_wait.part.locks 1) ≡ Some (RelockWait 1 (Some 110))
  pub again : mutex_at (after_unlock 1 late_wait.part.locks) 1 ≡ owned NoProtocol 1 []
  pub told : register_of (with_locks (after_unlock 1) late_wait.part) 1 A0 ≡ Some 110

-- 1 counted mutex 1 twice and waits on a condition variable
abbrev pub counted_wait : Answer
counted_wait = cond_wait (call_with 0 4 0) (part_with (0 ∷ 1 ∷ []) (thread 5 ∷ []) (counted 2 ∷ []))

-- the wait counts down once, the re-lock after a signal counts up once (pthread_cond_wait; own)
pub record CountedRecursiveWait : Type 0 where
  pub blocks : counted_wait.reply ≡ Blocked
  pub held : mutex_at counted_wait.part.locks 1 ≡ counted 1
  pub counted_again : mutex_at (cond_signal (call_with 0 0 0) counted_wait.part).part.locks 1 ≡ counted 2

-- a sleep until the time at 0
abbrev pub asleep : ThreadNumber → Part → Part
asleep t s = (clock_nanosleep (call_by t 0 0 0) s).part

-- 3 and then 2 begin to sleep until tick 100
abbrev pub sleepers : Part
sleepers = asleep 2 (asleep 3 (part_with (0 ∷ 0 ∷ 100000 ∷ []) (thread 16 ∷ thread 16 ∷ thread 16 ∷ []) []))

-- deadlines of one tick come by thread number (own)
pub record EqualWakeups : Type 0 where
  pub deadlines : deadlines_of sleepers.locks ≡ None ∷ Some 100 ∷ Some 100 ∷ []
  pub line : (after_expiries 100 sleepers).line ≡ 2 ∷ 3 ∷ []

-- ---- words and pointers

-- a condition wait of words 0, where no mutex is in use
abbrev pub zero_words : Pointer → Answer
zero_words mutex = cond_wait (call_with 0 mutex 0) (part_with (0 ∷ 0 ∷ []) (thread 5 ∷ []) (None ∷ []))

-- the words are set up before the wait is refused; a word that names both is read twice, in its turn (PTHREAD_COND_INITIALIZER; own)
pub record ZeroWordsWait : Type 0 where
  pub refused : (zero_words 4).reply ≡ Done 1
  pub condition : word_at (zero_words 4).part.memory 0 ≡ 1
  pub mutex : word_at (zero_words 4).part.memory 4 ≡ 1
  pub same_refused : (zero_words 0).reply ≡ Done 22
  pub same : word_at (zero_words 0).part.memory 0 ≡ 1

-- a lock through the pointer, in a memory of 4,096 bytes that are all 0
abbrev pub lock_at : Pointer → Answer
lock_at pointer = mutex_lock (call_with pointer 0 0) (with_locks (λ _. locks_of (thread 5 ∷ []) (None ∷ [])) (empty_part small []))

-- a time stored through the pointer, in that memory
abbrev pub time_at : Pointer → Answer
time_at pointer = clock_gettime (call_with 0 pointer 0) (with_locks (λ _. locks_of (thread 5 ∷ []) []) (empty_part small []))

-- a pointer is a multiple of 4, and its bytes end in memory (own, EFAULT)
pub record EdgePointers : Type 0 where
  pub misaligned : (lock_at 2).reply ≡ Done 14
  pub outside : (lock_at 4096).reply ≡ Done 14
  pub wrapping : (lock_at 0xfffffffc).reply ≡ Done 14
  pub last : (lock_at 4092).reply ≡ Done 0
  pub too_long : (time_at 4088).reply ≡ Done 14
  pub fitting : (time_at 4084).reply ≡ Done 0

-- a lock through the pointer, where the number of the free mutex 1 stands at 0 and at 4, and the word of a destroyed one at 8
abbrev pub copied : Pointer → Answer
copied pointer = mutex_lock (call_with pointer 0 0) (part_with (1 ∷ 1 ∷ 0xffffffff ∷ []) (thread 5 ∷ []) (free NoProtocol ∷ []))

-- a copied word names the same mutex (own)
pub record CopiedWord : Type 0 where
  pub here : mutex_at (copied 0).part.locks 1 ≡ owned NoProtocol 1 []
  pub there : mutex_at (copied 4).part.locks 1 ≡ owned NoProtocol 1 []
  pub destroyed : (copied 8).reply ≡ Done 22
