-- The call table: what each call does. Numbers and ticks stand in the list of calls of ptk_words.
use Rattle.std.specs.Prelude.{Option, Some, None}
use Rattle.ptk_words.specs.declared.calls.Call.{Call}
use Rattle.ptk_words.specs.declared.calls.Call.TheVariants as call
use Rattle.ptk_words_model.specs.Calls.{no_call}
use Rattle.ptk_words_model.specs.Steps.{Row}
use Rattle.ptk_words_model.specs.ConsoleCalls.{exit_call, console_put, console_get}
use Rattle.ptk_words_model.specs.ThreadCalls.{create, pthread_exit, join, detach, self, yield, setschedparam, getschedparam, setschedprio}
use Rattle.ptk_words_model.specs.TimeCalls.{clock_gettime, clock_nanosleep}
use Rattle.ptk_words_model.specs.MutexCalls.{mutex_init, mutex_destroy, mutex_lock, mutex_trylock, mutex_timedlock, mutex_unlock, mutex_consistent}
use Rattle.ptk_words_model.specs.ConditionCalls.{cond_init, cond_destroy, cond_wait, cond_timedwait, cond_signal, cond_broadcast}
use Rattle.ptk_words_model.specs.CancellationCalls.{cancel, setcancelstate, setcanceltype, testcancel, cleanup_push, cleanup_pop}
use Rattle.ptk_words_model.specs.KeyCalls.{key_create, key_delete, setspecific, getspecific}

-- the row of a call: every call of the table has one (own)
abbrev pub answer_of : Call → Row
answer_of call.Exit = exit_call
answer_of call.ConsolePut = console_put
answer_of call.ConsoleGet = console_get
answer_of call.ClockGettime = clock_gettime
answer_of call.ClockNanosleep = clock_nanosleep
answer_of call.PthreadCreate = create
answer_of call.PthreadExit = pthread_exit
answer_of call.PthreadJoin = join
answer_of call.PthreadDetach = detach
answer_of call.PthreadSelf = self
answer_of call.SchedYield = yield
answer_of call.PthreadSetschedparam = setschedparam
answer_of call.PthreadGetschedparam = getschedparam
answer_of call.PthreadSetschedprio = setschedprio
answer_of call.MutexInit = mutex_init
answer_of call.MutexDestroy = mutex_destroy
answer_of call.MutexLock = mutex_lock
answer_of call.MutexTrylock = mutex_trylock
answer_of call.MutexTimedlock = mutex_timedlock
answer_of call.MutexUnlock = mutex_unlock
answer_of call.MutexConsistent = mutex_consistent
answer_of call.CondInit = cond_init
answer_of call.CondDestroy = cond_destroy
answer_of call.CondWait = cond_wait
answer_of call.CondTimedwait = cond_timedwait
answer_of call.CondSignal = cond_signal
answer_of call.CondBroadcast = cond_broadcast
answer_of call.PthreadCancel = cancel
answer_of call.PthreadSetcancelstate = setcancelstate
answer_of call.PthreadSetcanceltype = setcanceltype
answer_of call.PthreadTestcancel = testcancel
answer_of call.CleanupPush = cleanup_push
answer_of call.CleanupPop = cleanup_pop
answer_of call.KeyCreate = key_create
answer_of call.KeyDelete = key_delete
answer_of call.PthreadSetspecific = setspecific
answer_of call.PthreadGetspecific = getspecific

-- the row of the call that a number names, and the reply where it names none (own, ENOSYS)
abbrev pub answer_to : Option Call → Row
answer_to None = no_call
answer_to (Some known) = answer_of known
