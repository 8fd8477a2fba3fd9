-- The steps of a call, from top to bottom: each refuses or goes on, and the last one answers.
use Rattle.std.specs.Prelude.{ℕ, Bool, false, not, [], ◌∷◌, ◌==◌, if◌then◌else◌, Option, Some, option_map, unwrap_or, is_some, Result, Ok, Err}
use Rattle.ptk_words.specs.Names.{ThreadNumber, MutexNumber, ConditionNumber, Pointer, Word}
use Rattle.ptk_words.specs.Words.{word_at}
use Rattle.ptk_words.specs.Pools.{pool_get, least_free}
use Rattle.ptk_words.specs.declared.faults.Errno.{Errno}
use Rattle.ptk_words.specs.declared.faults.Errno.TheVariants.{ESRCH, ENOMEM, EFAULT, EINVAL}
use Rattle.ptk_words.specs.declared.faults.Status.{Status}
use Rattle.ptk_words.specs.declared.mutexes.MutexKind.TheVariants.{Normal}
use Rattle.ptk_words.specs.declared.mutexes.Protocol.TheVariants.{NoProtocol}
use Rattle.ptk_words.specs.declared.threads.Thread.{Thread}
use Rattle.ptk_words.specs.declared.threads.Wait.{Wait}
use Rattle.ptk_words_model.specs.State.{Locks, Syncs, Part, with_locks, with_syncs, with_halt}
use Rattle.ptk_words_model.specs.Priority.{thread_at}
use Rattle.ptk_words_model.specs.Schedule.{with_thread}
use Rattle.ptk_words_model.specs.Mutex.{mutex_at, new_mutex}
use Rattle.ptk_words_model.specs.Unwinding.{after_unwinding_start, without_thread}
use Rattle.ptk_words_model.specs.declared.Invocation.{Invocation}
pub use Rattle.ptk_words_model.specs.CallRows.{Row, Step, Gives, ◌passed_to◌, ◌>>◌}
use Rattle.ptk_words_model.specs.CallRows.{◌passed_to◌ as ◌>>=◌}
use Rattle.ptk_words_model.specs.declared.Reply.TheVariants.{Halted, Unwinding}
use Rattle.ptk_words_model.specs.Calls.{answer, refusal, success, blocked, told, blocked_in, is_pointer, is_cancelled, cancellation_answer, with_pool_mutex, with_pool_condition, with_stored}

-- ---- steps that read

-- the registers of the call
abbrev pub registers : Gives Invocation
registers rest i s = rest i i s

-- the state as it is now
abbrev pub state : Gives Part
state rest i s = rest s i s

-- ---- steps that check

infix 5 refuse◌when◌
-- this error, where the condition holds (XSH 2.3)
abbrev pub refuse◌when◌ : Errno → Bool → Step
(refuse e when b) rest i s = if b then refusal e i s else rest i s

infix 5 refuse◌unless◌
-- this error, where the condition does not hold (XSH 2.3)
abbrev pub refuse◌unless◌ : Errno → Bool → Step
(refuse e unless b) rest i s = if not b then refusal e i s else rest i s

infix 5 ◌or_refuse◌
-- the value, or this error where there is none (XSH 2.3)
abbrev pub ◌or_refuse◌ : {A : Type 0} → Option A → Errno → Gives A
(found or_refuse e) rest i s = unwrap_or (option_map (λ a. rest a i s) found) (refusal e i s)

-- the value, or the error that stands in its place (XSH 2.3)
abbrev pub valid : {A : Type 0} → Result A Errno → Gives A
valid (Ok a) rest i s = rest a i s
valid (Err e) rest i s = refusal e i s

infix 5 when◌finish◌
-- where the condition holds, the call ends so
abbrev pub when◌finish◌ : Bool → Row → Step
(when b finish ending) rest i s = if b then ending i s else rest i s

-- a cancellation point: a cancelled caller goes no further (XSH 2.9.5.2)
abbrev pub cancellation_point : Step
cancellation_point rest i s = if is_cancelled s i.caller then cancellation_answer i s else rest i s

-- the thread of this number (own, ESRCH)
abbrev pub thread : ThreadNumber → Gives Thread
thread t rest i s = (thread_at s.locks t or_refuse ESRCH) rest i s

-- this many bytes at a pointer are in memory (own, EFAULT)
abbrev pub readable : Pointer → ℕ → Step
readable pointer count rest i s = (refuse EFAULT unless is_pointer s pointer count) rest i s

-- ---- steps that change the state

-- the state changed
abbrev pub change : (Part → Part) → Step
change f rest i s = rest i (f s)

-- the threads, the line or the mutexes changed
abbrev pub change_locks : (Locks → Locks) → Step
change_locks f rest i s = rest i (with_locks f s)

-- the threads, line, mutexes or condition variables changed
abbrev pub change_syncs : (Syncs → Syncs) → Step
change_syncs f rest i s = rest i (with_syncs f s)

-- one thread changed
abbrev pub change_thread : ThreadNumber → (Thread → Thread) → Step
change_thread t f rest i s = rest i (with_locks (with_thread t f) s)

-- a thread's number is free (pthread_join, pthread_detach)
abbrev pub free_number : ThreadNumber → Step
free_number t rest i s = rest i (with_locks (without_thread t) s)

-- ---- words that name a mutex or a condition variable

-- the mutex of a word: 0 sets one up with default attributes, at the least free number, which the word then holds; the number of one in use names it. A refusal further down keeps what was set up (PTHREAD_MUTEX_INITIALIZER; own, EINVAL, ENOMEM)
abbrev pub mutex_named : Pointer → Gives MutexNumber
mutex_named pointer rest = do
  s ← state
  let word = word_at s.memory pointer
  when word == 0 finish (do
    m ← least_free s.mutexes or_refuse ENOMEM
    change (with_pool_mutex m (Some (new_mutex Normal NoProtocol false)))
    change (with_stored pointer m)
    rest m)
  refuse EINVAL unless is_some (mutex_at s.locks word)
  rest word

-- the condition variable of a word: 0 sets one up at the least free number, which the word then holds; the number of one in use names it. A refusal further down keeps what was set up (PTHREAD_COND_INITIALIZER; own, EINVAL, ENOMEM)
abbrev pub condition_named : Pointer → Gives ConditionNumber
condition_named pointer rest = do
  s ← state
  let word = word_at s.memory pointer
  when word == 0 finish (do
    c ← least_free s.conditions or_refuse ENOMEM
    change (with_pool_condition c (Some (record { waiters = [] })))
    change (with_stored pointer c)
    rest c)
  refuse EINVAL unless is_some (pool_get s.conditions word)
  rest word

-- ---- last steps

-- 0 in a0 (XSH 2.3)
abbrev pub succeed : Row
succeed i s = success [] i s

-- 0 in a0, and a value in a1 (XSH 2.3)
abbrev pub succeed_with : Word → Row
succeed_with value i s = success (value ∷ []) i s

-- 0 in a0, and values in a1 and a2 (XSH 2.3)
abbrev pub succeed_with_both : Word → Word → Row
succeed_with_both first second i s = success (first ∷ second ∷ []) i s

-- the caller blocks (XSH 2.8.4)
abbrev pub block : Row
block i s = blocked s

-- this in a0; where there is no reply yet, the caller blocks (XSH 2.3, 2.8.4)
abbrev pub reply_if_any : Option Word → Row
reply_if_any reply i s = told reply i s

-- the caller blocks in this wait (XSH 2.8.4)
abbrev pub block_in : Wait → Row
block_in wait i s = blocked_in wait i s

-- the partition halts, and its caller gets no reply (own)
abbrev pub halt : Status → Row
halt status i s = answer Halted (with_halt status s)

-- the caller begins unwinding with the value (XSH 2.9.5.3)
abbrev pub unwind : Word → Row
unwind value i s = answer Unwinding (after_unwinding_start i.caller value s)
