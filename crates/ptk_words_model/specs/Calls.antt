-- Calls: what a call is given, its answer, and the checks that several calls make.
use Rattle.std.specs.Prelude.{ℕ, ◌+◌, ◌%◌, Bool, false, ◌&&◌, List, [], ◌∷◌, length, ◌==◌, nat_le, Option, Some, None, option_map, unwrap_or}
use Rattle.ptk_words.specs.Names.{ConditionNumber, MutexNumber, Pointer, ThreadNumber, Word}
use Rattle.ptk_words.specs.Words.{with_word}
use Rattle.ptk_words.specs.Pools.{pool_set, numbered}
use Rattle.ptk_words.specs.Faults.{errno_number}
use Rattle.ptk_words.specs.declared.TheConstants.{CANCELED}
use Rattle.ptk_words.specs.declared.faults.Errno.{Errno}
use Rattle.ptk_words.specs.declared.faults.Errno.TheVariants.{ENOSYS}
use Rattle.ptk_words.specs.declared.threads.Wait.{Wait}
use Rattle.ptk_words_model.specs.declared.Invocation.{Invocation}
use Rattle.ptk_words_model.specs.declared.Reply.{Reply}
use Rattle.ptk_words_model.specs.declared.Reply.TheVariants.{Done, Blocked, Unwinding}
use Rattle.ptk_words_model.specs.State.{Mutex, Condition, Part, with_locks, with_syncs}
use Rattle.ptk_words_model.specs.Priority.{thread_at}
use Rattle.ptk_words_model.specs.Schedule.{with_thread, with_reply}
use Rattle.ptk_words_model.specs.Unwinding.{after_unwinding_start, phase_of}
use Rattle.ptk_words.specs.Threads.{is_normal}

-- ---- calls and replies

-- the state after a call, with the reply in the caller's registers, and the reply
pub record Answer : Type 0 where
  pub part : Part
  pub reply : Reply

-- this state with this reply
abbrev pub answer : Reply → Part → Answer
answer reply s = record { part = s; reply = reply }

-- the values in the thread's a0, a1 and so on
abbrev pub replied : ThreadNumber → List Word → Part → Part
replied t values s = with_locks (with_thread t (with_reply values)) s

-- an error number in a0, and the state unchanged (XSH 2.3; own)
abbrev pub refusal : Errno → Invocation → Part → Answer
refusal e i s = answer (Done (errno_number e)) (replied i.caller (errno_number e ∷ []) s)

-- 0 in a0, and these values in a1 and so on (XSH 2.3; own)
abbrev pub success : List Word → Invocation → Part → Answer
success values i s = answer (Done 0) (replied i.caller (0 ∷ values) s)

-- the caller blocks and no longer runs; its reply comes when it is woken (XSH 2.8.4)
abbrev pub blocked : Part → Answer
blocked s = answer Blocked (record s { running = None })

-- this in a0; where there is no reply yet, the caller blocks (XSH 2.3, 2.8.4)
abbrev pub told : Option Word → Invocation → Part → Answer
told None i s = blocked s
told (Some word) i s = answer (Done word) (replied i.caller (word ∷ []) s)

-- the caller blocks in this wait (XSH 2.8.4)
abbrev pub blocked_in : Wait → Invocation → Part → Answer
blocked_in wait i s = blocked (with_locks (with_thread i.caller (λ thread. record thread { wait = Some wait })) s)

-- a number that is no call (own, ENOSYS)
abbrev pub no_call : Invocation → Part → Answer
no_call i s = refusal ENOSYS i s

-- ---- checks

-- a pointer to this many bytes: a multiple of 4, and the bytes are in memory (own, EFAULT)
abbrev pub is_pointer : Part → Pointer → ℕ → Bool
is_pointer s pointer count = pointer % 4 == 0 && nat_le (pointer + count) (length s.memory)

-- a normal thread, with cancellation enabled, has a pending request (XSH 2.9.5.2)
abbrev pub is_cancelled : Part → ThreadNumber → Bool
is_cancelled s t = is_normal (phase_of (thread_at s.locks t)) && unwrap_or (option_map (λ c. c.is_enabled && c.is_pending) (numbered s.cancellations t)) false

-- a cancellation point at which a pending request is acted on: the call is not carried out (XSH 2.9.5.2)
abbrev pub cancellation_answer : Invocation → Part → Answer
cancellation_answer i s = answer Unwinding (after_unwinding_start i.caller CANCELED s)

-- a mutex at a number of the pool, or none
abbrev pub with_pool_mutex : MutexNumber → Option Mutex → Part → Part
with_pool_mutex m mutex s = with_locks (λ locks. record locks { mutexes = pool_set locks.mutexes m mutex }) s

-- a condition variable at a number of the pool, or none
abbrev pub with_pool_condition : ConditionNumber → Option Condition → Part → Part
with_pool_condition c condition s = with_syncs (λ syncs. record syncs { conditions = pool_set syncs.conditions c condition }) s

-- the word stored at the pointer
abbrev pub with_stored : Pointer → Word → Part → Part
with_stored pointer word s = record s { memory = with_word s.memory pointer word }
