-- A new thread: what its attributes ask for, and the thread that is made (pthread_create, pthread_attr_init).
use Rattle.std.specs.Prelude.{ℕ, ◌+◌, ◌-◌, ◌*◌, ◌%◌, Bool, true, false, not, ◌&&◌, ◌||◌, [], ◌∷◌, ◌++◌, length, replicate, ◌==◌, nat_lt, nat_le, if◌then◌else◌, Option, Some, None, unwrap_or, Result, Ok, Err}
use Rattle.ptk_words.specs.Names.{ThreadNumber, Priority, Pointer, Word}
use Rattle.ptk_words.specs.Words.{word_at}
use Rattle.ptk_words.specs.declared.TheConstants.{SP}
use Rattle.ptk_words.specs.Pools.{pool_set}
use Rattle.ptk_words.specs.Results.{◌>>=◌}
use Rattle.ptk_words.specs.Processor.{Processor, with_register}
use Rattle.ptk_words.specs.declared.faults.Errno.{Errno}
use Rattle.ptk_words.specs.declared.faults.Errno.TheVariants.{EFAULT, EINVAL, ENOTSUP}
use Rattle.ptk_words.specs.declared.sections.Limits.{Limits}
use Rattle.ptk_words.specs.declared.threads.Thread.{Thread}
use Rattle.ptk_words.specs.declared.threads.Phase.TheVariants.{Normal}
use Rattle.ptk_words.specs.declared.threads.Policy.{Policy}
use Rattle.ptk_words.specs.declared.threads.Policy.TheVariants.{Fifo, RoundRobin}
use Rattle.ptk_words_model.specs.declared.Cancellation.{Cancellation}
use Rattle.ptk_words_model.specs.declared.Creation.{Creation}
use Rattle.ptk_words_model.specs.declared.Scheduling.{Scheduling}
use Rattle.ptk_words_model.specs.declared.Scheduling.TheVariants.{Inherited, Explicit}
use Rattle.ptk_words_model.specs.declared.Invocation.{Invocation}
use Rattle.ptk_words_model.specs.State.{Part, with_locks, with_cancellation, with_cleanups, with_keys}
use Rattle.ptk_words_model.specs.Keys.{with_new_specific}
use Rattle.ptk_words_model.specs.Unwinding.{cpu_at_call}
use Rattle.ptk_words_model.specs.Calls.{is_pointer}

-- ---- the numbers that a guest gives

-- SCHED_FIFO 1 and SCHED_RR 2 (own)
abbrev pub policy_of : Word → Option Policy
policy_of n = if n == 1 then Some Fifo else if n == 2 then Some RoundRobin else None

-- the number of a policy, which names it
abbrev pub policy_number : Policy → Word
policy_number Fifo = 1
policy_number RoundRobin = 2

-- the priorities of both policies (sched_get_priority_max; own)
abbrev pub is_priority : Word → Bool
is_priority n = nat_le 1 n && nat_le n 32

-- the priority of a word, if it is one
abbrev pub priority_of : Word → Option Priority
priority_of word = if is_priority word then Some word else None

-- ---- what the attributes ask for

-- the attributes of a new thread (pthread_attr_init; own)
pub record Attributes : Type 0 where
  pub detach : ℕ
  pub inherit : ℕ
  pub policy : ℕ
  pub priority : ℕ
  pub stack_top : ℕ

-- a word of the attributes object, 0 of pointer 0
abbrev pub attribute : Part → Pointer → ℕ → Word
attribute s pointer offset = if pointer == 0 then 0 else word_at s.memory (pointer + offset)

-- the attributes object at the pointer
abbrev pub attributes_at : Part → Pointer → Attributes
attributes_at s pointer =
    record {
      detach = attribute s pointer 0;
      inherit = attribute s pointer 4;
      policy = attribute s pointer 8;
      priority = attribute s pointer 12;
      stack_top = attribute s pointer 16;
    }

-- the attributes object at the pointer, all words 0 at pointer 0 (pthread_create; own, EFAULT)
abbrev pub readable_attributes : Part → Pointer → Result Attributes Errno
readable_attributes s pointer = if pointer == 0 || is_pointer s pointer 20 then Ok (attributes_at s pointer) else Err EFAULT

-- the value, or this error where there is none
abbrev pub or_error : {A : Type 0} → Option A → Errno → Result A Errno
or_error (Some a) e = Ok a
or_error None e = Err e

-- the scheduling that the attributes ask for (pthread_attr_setinheritsched, ENOTSUP, EINVAL)
abbrev pub asked_scheduling : Attributes → Result Scheduling Errno
asked_scheduling a =
    if a.inherit == 1
    then (do
      policy ← or_error (policy_of a.policy) ENOTSUP
      priority ← or_error (priority_of a.priority) EINVAL
      Ok (Explicit policy priority))
    else Ok Inherited

-- neither 0 nor 1 (own)
abbrev pub is_no_choice : Word → Bool
is_no_choice word = nat_lt 1 word

-- no end of a stack: no multiple of 16, or past the memory of this many bytes (own)
abbrev pub is_no_stack_top : ℕ → Pointer → Bool
is_no_stack_top memory top = not (top % 16 == 0) || nat_lt memory top

-- the stack top that a word gives, none of 0 (own)
abbrev pub given_stack_top : Word → Option Pointer
given_stack_top word = if word == 0 then None else Some word

-- a thread of this scheduling with the rest of what the attributes ask for, in a memory of this many bytes (pthread_create, EINVAL; own)
abbrev pub scheduled_creation : Attributes → ℕ → Scheduling → Result Creation Errno
scheduled_creation a memory scheduling =
    if is_no_stack_top memory a.stack_top then Err EINVAL
    else Ok (record { scheduling = scheduling; is_detached = a.detach == 1; stack_top = given_stack_top a.stack_top })

-- what the attributes ask for, in a memory of this many bytes, or their first fault (pthread_create, EINVAL; own)
abbrev pub asked_creation : Attributes → ℕ → Result Creation Errno
asked_creation a memory =
    if is_no_choice a.detach || is_no_choice a.inherit then Err EINVAL
    else asked_scheduling a >>= scheduled_creation a memory

-- what the attributes object at the pointer asks for, or the first fault (pthread_create; own)
abbrev pub creation_at : Part → Pointer → Result Creation Errno
creation_at s pointer = do
  attributes ← readable_attributes s pointer
  asked_creation attributes (length s.memory)

-- ---- the thread that is made

-- the registers of a new thread: all 0 but the pc, a0, ra and sp (own)
abbrev pub start_cpu : Pointer → Word → Pointer → Processor
start_cpu routine argument top = cpu_at_call routine argument (with_register (record { registers = replicate 32 0; pc = 0 }) SP top)

-- a new thread (pthread_create)
abbrev pub new_thread : Processor → Policy → Priority → Thread
new_thread cpu policy priority =
    record {
      cpu = cpu;
      policy = policy;
      priority = priority;
      used = 0;
      is_main = false;
      is_detached = false;
      joiner = None;
      result = 0;
      phase = Normal;
      wait = None;
    }

-- the stacks lie below one another, from the end of memory (own)
abbrev pub default_stack_top : Limits → ThreadNumber → Pointer
default_stack_top limits t = limits.memory - (t - 1) * limits.stack

-- a new thread with these registers, with this scheduling or with its creator's (pthread_attr_setinheritsched)
abbrev pub scheduled_thread : Scheduling → Processor → Thread → Thread
scheduled_thread Inherited cpu creator = new_thread cpu creator.policy creator.priority
scheduled_thread (Explicit policy priority) cpu creator = new_thread cpu policy priority

-- the thread of this number that the creator makes, with the start routine and the argument of the call (pthread_create)
abbrev pub created_thread : Invocation → Creation → Thread → ThreadNumber → Thread
created_thread i creation creator t =
    let top : ℕ = unwrap_or creation.stack_top (default_stack_top i.limits t) in
    record (scheduled_thread creation.scheduling (start_cpu i.a1 i.a2 top) creator) { is_detached = creation.is_detached }

-- PTHREAD_CANCEL_ENABLE and PTHREAD_CANCEL_DEFERRED (pthread_setcancelstate)
abbrev pub new_cancellation : Cancellation
new_cancellation =
    record { is_enabled = true; is_asynchronous = false; is_pending = false; is_marked = false }

-- a thread begins, at the tail (pthread_create)
abbrev pub with_new_thread : Limits → ThreadNumber → Thread → Part → Part
with_new_thread limits t thread s =
    with_locks (λ locks. record locks { threads = pool_set locks.threads t (Some thread); line = locks.line ++ t ∷ [] })
    (with_keys (with_new_specific limits.keys t) (with_cleanups t (λ _. []) (with_cancellation t (λ _. new_cancellation) s)))
