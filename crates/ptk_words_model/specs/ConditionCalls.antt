-- Calls 30 to 35: condition variables (pthread_cond_init to pthread_cond_broadcast).
use Rattle.std.specs.Prelude.{[], length, nat_lt, nat_le, Some, None}
use Rattle.ptk_words.specs.Names.{MutexNumber, ConditionNumber}
use Rattle.ptk_words.specs.Pools.{least_free}
use Rattle.ptk_words.specs.Faults.{errno_number}
use Rattle.ptk_words.specs.declared.TheConstants.{DESTROYED}
use Rattle.ptk_words.specs.declared.faults.Errno.TheVariants.{EPERM, ENOMEM, EBUSY, EINVAL, ETIMEDOUT}
use Rattle.ptk_words.specs.declared.threads.Wait.TheVariants.{RelockWait}
use Rattle.ptk_words_model.specs.declared.LockMove.{LockMove}
use Rattle.ptk_words_model.specs.Mutex.{mutex_at, owns, relock_move, move_reply, after_move, after_unlock}
use Rattle.ptk_words_model.specs.Condition.{condition_waiters, names_another, after_condition_wait, after_signal, after_broadcast}
use Rattle.ptk_words_model.specs.Time.{timespec_at, is_timespec, deadline_of}
use Rattle.ptk_words_model.specs.Calls.{with_stored, with_pool_condition}
use Rattle.ptk_words_model.specs.Steps.{Row, Step, ◌passed_to◌ as ◌>>=◌, ◌>>◌, registers, state, refuse◌when◌, refuse◌unless◌, ◌or_refuse◌, when◌finish◌, cancellation_point, readable, mutex_named, condition_named, change, change_locks, change_syncs, succeed, reply_if_any, block}

-- a condition variable at the least free number; the old word is not looked at (pthread_cond_init, ENOMEM; own)
abbrev pub cond_init : Row
cond_init = do
  i ← registers
  readable i.a0 4
  s ← state
  c ← least_free s.conditions or_refuse ENOMEM
  change (with_pool_condition c (Some (record { waiters = [] })))
  change (with_stored i.a0 c)
  succeed

-- the number of a condition variable without waiters is free (pthread_cond_destroy, EBUSY)
abbrev pub cond_destroy : Row
cond_destroy = do
  i ← registers
  readable i.a0 4
  c ← condition_named i.a0
  s ← state
  refuse EBUSY when nat_lt 0 (length (condition_waiters s.syncs c))
  change (with_pool_condition c None)
  change (with_stored i.a0 DESTROYED)
  succeed

-- the checks of both waits: the mutex is the caller's, and no waiter names another (pthread_cond_wait, EPERM, EINVAL)
abbrev pub may_wait : ConditionNumber → MutexNumber → Step
may_wait c m rest = do
  i ← registers
  s ← state
  refuse EPERM unless owns i.caller (mutex_at s.locks m)
  refuse EINVAL when names_another s.syncs c m
  rest

-- a wait without a deadline (pthread_cond_wait)
abbrev pub cond_wait : Row
cond_wait = do
  i ← registers
  readable i.a0 4
  readable i.a1 4
  cancellation_point
  c ← condition_named i.a0
  m ← mutex_named i.a1
  may_wait c m
  change_syncs (after_condition_wait i.caller c m None)
  block

-- a running thread makes the move to have its mutex again, and is to be told ETIMEDOUT, at once or when it is woken (pthread_cond_timedwait; own)
abbrev pub late_answer : LockMove → MutexNumber → Row
late_answer move m = do
  i ← registers
  let reply = Some (errno_number ETIMEDOUT)
  change_locks (after_move move i.caller m (RelockWait m reply))
  reply_if_any (move_reply move reply)

-- a deadline already reached: the mutex is released and locked again (pthread_cond_timedwait)
abbrev pub late_wait_answer : MutexNumber → Row
late_wait_answer m = do
  i ← registers
  change_locks (after_unlock m)
  s ← state
  late_answer (relock_move i.caller (mutex_at s.locks m)) m

-- a wait with a deadline; the time is read after both words' objects were set up, which may have written over it (pthread_cond_timedwait; own)
abbrev pub cond_timedwait : Row
cond_timedwait = do
  i ← registers
  readable i.a0 4
  readable i.a1 4
  readable i.a2 12
  cancellation_point
  c ← condition_named i.a0
  m ← mutex_named i.a1
  may_wait c m
  s ← state
  let time = timespec_at s.memory i.a2
  refuse EINVAL unless is_timespec time
  when nat_le (deadline_of time) i.tick finish (late_wait_answer m)
  change_syncs (after_condition_wait i.caller c m (Some (deadline_of time)))
  block

-- one waiter is unblocked (pthread_cond_signal)
abbrev pub cond_signal : Row
cond_signal = do
  i ← registers
  readable i.a0 4
  c ← condition_named i.a0
  change_syncs (after_signal c)
  succeed

-- every waiter is unblocked (pthread_cond_broadcast)
abbrev pub cond_broadcast : Row
cond_broadcast = do
  i ← registers
  readable i.a0 4
  c ← condition_named i.a0
  change_syncs (after_broadcast c)
  succeed
