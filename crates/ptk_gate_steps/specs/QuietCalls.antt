-- Which calls are quiet: they reply at once, wake nobody, begin no unwinding and change no priority.
use Rattle.std.specs.Prelude.{◌==◌, ◌&&◌, nat_le, nat_lt, length, if◌then◌else◌, Bool, true, false, not, Option, Some, None, is_some, option_map, unwrap_or}
use Rattle.ptk_words.specs.Names.{ThreadNumber, Word}
use Rattle.ptk_words.specs.Calls.{call_of}
use Rattle.ptk_words.specs.Pools.{pool_get, numbered}
use Rattle.ptk_words.specs.Processor.{register}
use Rattle.ptk_words.specs.Threads.{is_taken}
use Rattle.ptk_words.specs.Words.{word_at}
use Rattle.ptk_words.specs.declared.TheConstants.{A0, A7, ECALL}
use Rattle.ptk_words.specs.declared.calls.Call.{Call}
use Rattle.ptk_words.specs.declared.calls.Call.TheVariants.{ConsolePut, PthreadDetach, PthreadGetschedparam, PthreadGetspecific, PthreadSelf, PthreadSetspecific, MutexLock, MutexUnlock, CondSignal, CondBroadcast}
use Rattle.ptk_words.specs.declared.threads.Thread.{Thread}
use Rattle.ptk_words_model.specs.State.{Mutex, Part}
use Rattle.ptk_words_model.specs.Mutex.{mutex_at}
use Rattle.ptk_words_model.specs.Condition.{condition_waiters}
use Rattle.ptk_words_model.specs.Priority.{thread_at}
use Rattle.ptk_words_model.specs.Calls.{is_pointer}
use Rattle.ptk_words_model.specs.Decision.{word_fetched}
use Rattle.ptk_roster.specs.Plain.{is_takeable, is_releasable}

-- the mutex whose number is the word at the pointer, None where there is none; no partition has more than 64 (pthread_mutex_lock; own)
abbrev pub mutex_pointed : Word → Part → Option Mutex
mutex_pointed pointer s =
    if is_pointer s pointer 4 && nat_le (word_at s.memory pointer) 64 then mutex_at s.locks (word_at s.memory pointer) else None

-- the word at the pointer is the number of a condition variable that nobody waits on (pthread_cond_signal; own)
abbrev pub is_unwaited_at : Word → Part → Bool
is_unwaited_at pointer s =
    is_pointer s pointer 4 && is_some (pool_get s.conditions (word_at s.memory pointer)) && not (nat_lt 0 (length (condition_waiters s.syncs (word_at s.memory pointer))))

-- a request is pending for the thread, with ENABLE, in whatever phase the thread is (XSH 2.9.5.2; own)
abbrev pub has_request : ThreadNumber → Part → Bool
has_request t s = unwrap_or (option_map (λ c. c.is_enabled && c.is_pending) (numbered s.cancellations t)) false

-- the call, with this word in the thread's a0, is quiet; a number that is no call is refused at once, and so are the calls that refuse here (own)
abbrev pub is_quiet_with : Option Call → ThreadNumber → Word → Part → Bool
is_quiet_with None t a0 s = true
is_quiet_with (Some PthreadSelf) t a0 s = true
is_quiet_with (Some PthreadGetschedparam) t a0 s = true
is_quiet_with (Some PthreadDetach) t a0 s = unwrap_or (option_map (λ (thread : Thread). is_taken thread) (thread_at s.locks a0)) true
is_quiet_with (Some ConsolePut) t a0 s = not (has_request t s)
is_quiet_with (Some MutexLock) t a0 s = is_takeable (mutex_pointed a0 s)
is_quiet_with (Some MutexUnlock) t a0 s = is_releasable t (mutex_pointed a0 s)
is_quiet_with (Some CondSignal) t a0 s = is_unwaited_at a0 s
is_quiet_with (Some CondBroadcast) t a0 s = is_unwaited_at a0 s
is_quiet_with (Some PthreadSetspecific) t a0 s = true
is_quiet_with (Some PthreadGetspecific) t a0 s = true
is_quiet_with (Some call) t a0 s = false

-- the next step of the thread is a quiet call (own)
abbrev pub is_quiet_call : ThreadNumber → Thread → Part → Bool
is_quiet_call t thread s =
    (word_fetched s.memory thread.cpu.pc == ECALL) && is_quiet_with (call_of (register thread.cpu A7)) t (register thread.cpu A0) s
