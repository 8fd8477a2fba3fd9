-- Effective priorities in built states: chains, a cycle, ceilings and hand overs.
use Rattle.std.specs.Prelude.{◌≡◌, List, [], ◌∷◌, map, Some, None}
use Rattle.ptk_words.specs.Names.{Priority}
use Rattle.ptk_words.specs.declared.TheConstants.{A0}
use Rattle.ptk_words.specs.declared.faults.Errno.TheVariants.{EAGAIN, EINVAL}
use Rattle.ptk_words.specs.declared.mutexes.Protocol.{Protocol}
use Rattle.ptk_words.specs.declared.mutexes.Protocol.TheVariants.{NoProtocol, Inherit, Protect}
use Rattle.ptk_words.specs.declared.threads.Wait.TheVariants.{MutexWait}
use Rattle.ptk_words_model.specs.declared.LockMove.TheVariants.{Takes, Counts, Refuses}
use Rattle.ptk_words_model.specs.declared.Reply.TheVariants.{Done, Blocked}
use Rattle.ptk_words_model.specs.State.{Locks, Part, locks_of}
use Rattle.ptk_words_model.specs.Priority.{thread_at, effective_priority}
use Rattle.ptk_words_model.specs.Schedule.{after_choice}
use Rattle.ptk_words_model.specs.Mutex.{mutex_at, wait_of, lock_move, after_unlock, waiters_of}
use Rattle.ptk_words_model.specs.Withdrawal.{deadlines_of, after_expiries}
use Rattle.ptk_words_model.specs.Calls.{Answer}
use Rattle.ptk_words_model.specs.MutexCalls.{mutex_lock, mutex_trylock, mutex_timedlock, mutex_unlock}
use Rattle.ptk_words_laws.specs.Guests.{register_of}
use Rattle.ptk_words_laws.specs.Rows.States.{thread, waiting, owned, free, counted, part_with, placed, call_by, call_with, after_lock_by}

-- effective priorities of the numbers 1 to 3
abbrev pub priorities : Locks → List Priority
priorities locks = map (effective_priority locks) (1 ∷ 2 ∷ 3 ∷ [])

-- ---- chains

-- 1 (at 2) and 2 (at 3) lock INHERIT mutexes 1 and 2, then each the other's
abbrev pub crossed : Part
crossed =
    after_lock_by 2 0
    (after_lock_by 1 4
    (after_lock_by 2 4 (after_lock_by 1 0 (part_with (1 ∷ 2 ∷ 0 ∷ 0 ∷ 50000 ∷ []) (thread 2 ∷ thread 3 ∷ thread 10 ∷ []) (free Inherit ∷ free Inherit ∷ [])))))

-- 1 and 2 wait for each other, and 3 (at 10) for mutex 1 until tick 50
abbrev pub cycle : Part
cycle = (mutex_timedlock (call_by 3 0 8 0) crossed).part

-- a waiter raises all threads of a cycle, and no longer when its deadline has come (pthread_mutexattr_getprotocol, pthread_mutex_timedlock)
pub record InheritCycle : Type 0 where
  pub owners : map (mutex_at cycle.locks) (1 ∷ 2 ∷ []) ≡ owned Inherit 1 (2 ∷ 3 ∷ []) ∷ owned Inherit 2 (1 ∷ []) ∷ []
  pub deadline : deadlines_of cycle.locks ≡ None ∷ None ∷ Some 50 ∷ []
  pub before : priorities (after_expiries 49 cycle).locks ≡ 10 ∷ 10 ∷ 10 ∷ []
  pub after : priorities (after_expiries 50 cycle).locks ≡ 3 ∷ 3 ∷ 10 ∷ []
  pub told : register_of (after_expiries 50 cycle) 3 A0 ≡ Some 110
  pub woken : (after_expiries 50 cycle).line ≡ 3 ∷ []
  pub waiters : waiters_of (mutex_at (after_expiries 50 cycle).locks 1) ≡ 2 ∷ []
  pub deadlines : deadlines_of (after_expiries 50 cycle).locks ≡ None ∷ None ∷ None ∷ []

-- 1 (at 2) owns mutex 1 of this protocol, for which 2 (at 3) waits; 2 owns mutex 2, for which 3 (at 9) waits
abbrev pub chain : Protocol → Locks
chain protocol =
    locks_of (thread 2 ∷ waiting 3 (MutexWait 1 None) ∷ waiting 9 (MutexWait 2 None) ∷ []) (owned protocol 1 (2 ∷ []) ∷ owned Inherit 2 (3 ∷ []) ∷ [])

-- priority is inherited over any number of steps, through INHERIT mutexes alone (pthread_mutexattr_getprotocol)
pub record TwoStepChain : Type 0 where
  pub inherited : priorities (chain Inherit) ≡ 9 ∷ 9 ∷ 9 ∷ []
  pub cut : priorities (chain NoProtocol) ≡ 2 ∷ 9 ∷ 9 ∷ []

-- ---- ceilings and counts

-- a ceiling is tested against the assigned priority, and not against one that a ceiling raised (pthread_mutex_lock, EINVAL)
pub record CeilingRefusal : Type 0 where
  pub refused : lock_move (locks_of (thread 9 ∷ []) []) 1 (free (Protect 8)) ≡ Refuses EINVAL
  pub raised : priorities (locks_of (thread 3 ∷ []) (owned (Protect 20) 1 [] ∷ [])) ≡ 20 ∷ 0 ∷ 0 ∷ []
  pub taken : lock_move (locks_of (thread 3 ∷ []) (owned (Protect 20) 1 [] ∷ [])) 1 (free (Protect 10)) ≡ Takes

-- a thread at 5 that owns mutexes with ceilings 10 and 20
abbrev pub two_ceilings : Locks
two_ceilings = locks_of (thread 5 ∷ []) (owned (Protect 10) 1 [] ∷ owned (Protect 20) 1 [] ∷ [])

-- the greatest ceiling counts that is still owned (pthread_mutexattr_getprotocol)
pub record NestedCeilings : Type 0 where
  pub both : effective_priority two_ceilings 1 ≡ 20
  pub second_unlocked : effective_priority (after_unlock 2 two_ceilings) 1 ≡ 10
  pub first_unlocked : effective_priority (after_unlock 1 (after_unlock 2 two_ceilings)) 1 ≡ 5

-- the count of a recursive mutex has a limit (pthread_mutex_lock, EAGAIN; own)
pub record RecursiveLimit : Type 0 where
  pub below : lock_move (locks_of (thread 5 ∷ []) []) 1 (counted 65534) ≡ Counts
  pub at : lock_move (locks_of (thread 5 ∷ []) []) 1 (counted 65535) ≡ Refuses EAGAIN

-- ---- lock and unlock

-- 1 has locked the NORMAL mutex whose word stands at 0
abbrev pub own_mutex : Part
own_mutex = after_lock_by 1 0 (part_with (1 ∷ []) (thread 5 ∷ []) (free NoProtocol ∷ []))

-- its second lock of that mutex
abbrev pub locked_again : Answer
locked_again = mutex_lock (call_with 0 0 0) own_mutex

-- a NORMAL mutex of one's own blocks its owner, and trylock is refused (pthread_mutex_lock, pthread_mutex_trylock)
pub record SelfDeadlock : Type 0 where
  pub blocks : locked_again.reply ≡ Blocked
  pub wait : wait_of (thread_at locked_again.part.locks 1) ≡ Some (MutexWait 1 None)
  pub waits : mutex_at locked_again.part.locks 1 ≡ owned NoProtocol 1 (1 ∷ [])
  pub refused : (mutex_trylock (call_with 0 0 0) own_mutex).reply ≡ Done 16

-- 1 (at 5) has locked the INHERIT mutex whose word stands at 0, and 2 (at 10) and 3 (at this priority) are there
abbrev pub low_owns : Priority → Part
low_owns priority = after_lock_by 1 0 (part_with (1 ∷ []) (thread 5 ∷ thread 10 ∷ thread priority ∷ []) (free Inherit ∷ []))

-- 3 (at 20) runs, 2 and then 1 are in the line; 3 locks the mutex of 1
abbrev pub high_waits : Answer
high_waits = mutex_lock (call_by 3 0 0 0) (placed 3 (2 ∷ 1 ∷ []) (low_owns 20))

-- 1 runs and unlocks the mutex
abbrev pub low_unlocks : Answer
low_unlocks = mutex_unlock (call_by 1 0 0 0) (after_choice high_waits.part)

-- the owner inherits and runs before the thread between; its unlock makes the waiter the owner, which runs next, and leaves it first in the line (pthread_mutexattr_getprotocol)
pub record InheritBasic : Type 0 where
  pub blocks : high_waits.reply ≡ Blocked
  pub inherited : effective_priority high_waits.part.locks 1 ≡ 20
  pub runs : (after_choice high_waits.part).running ≡ Some 1
  pub line : (after_choice high_waits.part).line ≡ 2 ∷ []
  pub unlocks : low_unlocks.reply ≡ Done 0
  pub owner : mutex_at low_unlocks.part.locks 1 ≡ owned Inherit 3 []
  pub told : register_of low_unlocks.part 3 A0 ≡ Some 0
  pub runs_next : (after_choice low_unlocks.part).running ≡ Some 3
  pub line_next : (after_choice low_unlocks.part).line ≡ 1 ∷ 2 ∷ []

-- 3 (at 10) runs, 1 and then 2 are in the line; 3 locks the mutex of 1
abbrev pub equal_waits : Answer
equal_waits = mutex_lock (call_by 3 0 0 0) (placed 3 (1 ∷ 2 ∷ []) (low_owns 10))

-- a raised thread keeps its place in the line, before its new equals (XSH 2.8.4; own)
pub record RaisedInPlace : Type 0 where
  pub blocks : equal_waits.reply ≡ Blocked
  pub raised : effective_priority equal_waits.part.locks 1 ≡ 10
  pub line : equal_waits.part.line ≡ 1 ∷ 2 ∷ []
  pub runs : (after_choice equal_waits.part).running ≡ Some 1

-- 1 (at 2) owns an INHERIT mutex for which 2 (at 5), 3 (at 9) and 4 (at 7) wait
abbrev pub three_waiters : Locks
three_waiters =
    locks_of
    (thread 2 ∷ waiting 5 (MutexWait 1 None) ∷ waiting 9 (MutexWait 1 None) ∷ waiting 7 (MutexWait 1 None) ∷ [])
    (owned Inherit 1 (2 ∷ 3 ∷ 4 ∷ []) ∷ [])

-- the mutex goes to the waiter of greatest effective priority, which then inherits of those that stay (pthread_mutex_unlock)
pub record InheritAfterHandover : Type 0 where
  pub before : priorities three_waiters ≡ 9 ∷ 5 ∷ 9 ∷ []
  pub owner : mutex_at (after_unlock 1 three_waiters) 1 ≡ owned Inherit 3 (2 ∷ 4 ∷ [])
  pub woken : (after_unlock 1 three_waiters).line ≡ 3 ∷ []
  pub after : priorities (after_unlock 1 three_waiters) ≡ 2 ∷ 5 ∷ 9 ∷ []
