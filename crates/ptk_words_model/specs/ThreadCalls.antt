-- Calls 10 to 18: threads and their scheduling (pthread_create to pthread_setschedprio).
use Rattle.std.specs.Prelude.{true, ◌==◌, nat_lt, if◌then◌else◌, Some, None}
use Rattle.std.specs.List.{list_any}
use Rattle.ptk_words.specs.Names.{ThreadNumber, Priority}
use Rattle.ptk_words.specs.Pools.{least_free, without}
use Rattle.ptk_words.specs.declared.faults.Errno.TheVariants.{EAGAIN, EINVAL, EDEADLK, ENOTSUP}
use Rattle.ptk_words.specs.declared.threads.Wait.TheVariants.{JoinWait}
use Rattle.ptk_words_model.specs.State.{Locks, Part, with_locks}
use Rattle.ptk_words_model.specs.Schedule.{at_tail, at_head, is_running}
use Rattle.ptk_words_model.specs.Mutex.{owns_raising}
use Rattle.ptk_words.specs.Threads.{is_ended, is_taken}
use Rattle.ptk_words_model.specs.Steps.{Row, ◌passed_to◌ as ◌>>=◌, ◌>>◌, registers, state, refuse◌when◌, refuse◌unless◌, ◌or_refuse◌, valid, when◌finish◌, cancellation_point, thread, change, change_thread, free_number, succeed, succeed_with, succeed_with_both, block_in, unwind}
use Rattle.ptk_words_model.specs.ThreadCreation.{policy_of, policy_number, is_priority, creation_at, created_thread, with_new_thread}

-- a new thread with attributes, a start routine and its argument: its number, the least free one, in a1 (pthread_create, EAGAIN)
abbrev pub create : Row
create = do
  i ← registers
  s ← state
  creation ← valid (creation_at s i.a0)
  t ← least_free s.threads or_refuse EAGAIN
  creator ← thread i.caller
  change (with_new_thread i.limits t (created_thread i creation creator t))
  succeed_with t

-- the value is the thread's result (pthread_exit)
abbrev pub pthread_exit : Row
pthread_exit = do
  i ← registers
  unwind i.a0

-- the result of an ended thread in a1, whose number is then free; else the caller blocks until its end (pthread_join)
abbrev pub join : Row
join = do
  i ← registers
  cancellation_point
  target ← thread i.a0
  refuse EDEADLK when i.a0 == i.caller
  refuse EINVAL when is_taken target
  when is_ended target.phase finish (do free_number i.a0; succeed_with target.result)
  change_thread i.a0 (λ thread. record thread { joiner = Some i.caller })
  block_in (JoinWait i.a0)

-- an ended thread's number is free, another is detached (pthread_detach)
abbrev pub detach : Row
detach = do
  i ← registers
  target ← thread i.a0
  refuse EINVAL when is_taken target
  when is_ended target.phase finish (do free_number i.a0; succeed)
  change_thread i.a0 (λ thread. record thread { is_detached = true })
  succeed

-- the caller's number in a1 (pthread_self)
abbrev pub self : Row
self = do
  i ← registers
  succeed_with i.caller

-- a running or ready thread is put at the place; a running one no longer runs (pthread_setschedparam, pthread_setschedprio)
abbrev pub after_placing : (ThreadNumber → Locks → Locks) → ThreadNumber → Part → Part
after_placing place t s =
    if is_running t s.running
    then (let out : Part = with_locks (place t) s in record out { running = None })
    else if list_any (λ u. u == t) s.line
    then with_locks (λ locks. place t (record locks { line = without t locks.line })) s
    else s

-- the caller goes to the tail (sched_yield)
abbrev pub yield : Row
yield = do
  i ← registers
  change (after_placing at_tail i.caller)
  succeed

-- an owner of an INHERIT or PROTECT mutex is never moved to the tail (pthread_mutexattr_getprotocol; own)
abbrev pub after_placing_at_tail : ThreadNumber → Part → Part
after_placing_at_tail t s = if owns_raising s.locks t then s else after_placing at_tail t s

-- a policy and a priority; a running or ready target goes to the tail, and its interval begins anew (pthread_setschedparam, XSH 2.8.4; own)
abbrev pub setschedparam : Row
setschedparam = do
  i ← registers
  _ ← thread i.a0
  policy ← policy_of i.a1 or_refuse ENOTSUP
  refuse EINVAL unless is_priority i.a2
  change_thread i.a0 (λ thread. record thread { policy = policy; priority = i.a2; used = 0 })
  change (after_placing_at_tail i.a0)
  succeed

-- the policy in a1, and the assigned priority in a2 (pthread_getschedparam)
abbrev pub getschedparam : Row
getschedparam = do
  i ← registers
  target ← thread i.a0
  succeed_with_both (policy_number target.policy) target.priority

-- a running or ready thread whose assigned priority was the old one goes to the tail where it rose, to the head where it fell (pthread_setschedprio, XSH 2.8.4)
abbrev pub after_priority_change : Priority → Priority → ThreadNumber → Part → Part
after_priority_change old new t s =
    if nat_lt old new then after_placing_at_tail t s
    else if nat_lt new old then after_placing at_head t s
    else s

-- a priority; a running or ready target goes to the tail where it rose, to the head where it fell (pthread_setschedprio)
abbrev pub setschedprio : Row
setschedprio = do
  i ← registers
  target ← thread i.a0
  refuse EINVAL unless is_priority i.a1
  change_thread i.a0 (λ thread. record thread { priority = i.a1 })
  change (after_priority_change target.priority i.a1 i.a0)
  succeed
