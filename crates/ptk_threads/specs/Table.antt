-- The slot table: the threads of each partition by number, their stored priorities and queues, and what each call makes of it.
use Rattle.std.specs.Prelude.{◌≡◌, ℕ, zero, suc, ◌<◌, ◌≤◌, IsSome, List, length, Option, Some, None, option_and_then, slice_index, slice_set, map}
use Rattle.ptk_words.specs.Processor.{Processor}
use Rattle.ptk_words.specs.Pools.{pool_get, pool_set, pool_changed, least_free}
use Rattle.ptk_words.specs.declared.threads.Thread.{Thread}
use Rattle.ptk_words.specs.declared.threads.Phase.{Phase}
use Rattle.ptk_words.specs.declared.threads.Policy.{Policy}
use Rattle.ptk_words.specs.declared.threads.Wait.{Wait}
use Rattle.ptk_words.specs.Parts.{part_of, filled}
use Rattle.ptk_threads.specs.Queues.{no_queues}

-- by partition and then by number: the threads, None where the number is free, and their stored effective priorities;
-- by partition and then by place: the queues that are linked through the slots
pub record ThreadTable : Type 0 where
  pub threads : List (List (Option Thread))
  pub stored : List (List ℕ)
  pub queues : List (List (List ℕ))

-- every partition has as many stored priorities as slots, at most 32
pub record IsTable (threads : List (List (Option Thread))) (stored : List (List ℕ)) : Type 0 where
  pub parts : length stored ≡ length threads
  pub same : (p : ℕ) → length (part_of stored p) ≡ length (part_of threads p)
  pub few : (p : ℕ) → length (part_of threads p) ≤ 32

-- as many free numbers for each partition as its count, with stored priority 0, and empty queues
abbrev pub free_table : List ℕ → ThreadTable
free_table counts = record { threads = map (filled None) counts; stored = map (filled 0) counts; queues = map no_queues counts }

-- ---- reading

-- the thread of a number, None of a free one
abbrev pub thread_in : ThreadTable → ℕ → ℕ → Option Thread
thread_in table p k = pool_get (part_of table.threads p) k

-- the stored priority of a number, 0 past the list
abbrev pub stored_of : List ℕ → ℕ → ℕ
stored_of stored zero = 0
stored_of stored (suc i) = slice_index stored i

-- of one partition's numbers: no stored priority is above 32, and that of a thread in use is at least 1 (XSH 2.8.4)
pub record AreLevelsOf (threads : List (Option Thread)) (stored : List ℕ) : Type 0 where
  pub greatest : (k : ℕ) → stored_of stored k ≤ 32
  pub least : (k : ℕ) → IsSome (pool_get threads k) → 0 < stored_of stored k

-- of each partition's numbers no stored priority is above 32, and that of a thread in use is at least 1 (XSH 2.8.4)
abbrev pub AreLevels : ThreadTable → Type 0
AreLevels table = (p : ℕ) → AreLevelsOf (part_of table.threads p) (part_of table.stored p)

-- ---- one partition's entries changed

-- the entry of a number, and its stored priority
abbrev pub with_slot : ℕ → ℕ → Option Thread → ℕ → ThreadTable → ThreadTable
with_slot p k slot priority table =
    record table {
      threads = slice_set table.threads p (pool_set (part_of table.threads p) k slot);
      stored = slice_set table.stored p (pool_set (part_of table.stored p) k priority);
    }

-- the thread of a number changed by f; a free number stays free
abbrev pub with_changed : ℕ → ℕ → (Thread → Thread) → ThreadTable → ThreadTable
with_changed p k f table = record table { threads = slice_set table.threads p (pool_changed k f (part_of table.threads p)) }

-- the stored priority of a number
abbrev pub with_stored : ℕ → ℕ → ℕ → ThreadTable → ThreadTable
with_stored p k priority table = record table { stored = slice_set table.stored p (pool_set (part_of table.stored p) k priority) }

-- the number is free, with stored priority 0 (pthread_join, pthread_detach)
abbrev pub with_free : ℕ → ℕ → ThreadTable → ThreadTable
with_free p k table = with_slot p k None 0 table

-- the thread at this number, where there is one, with its assigned priority stored (pthread_create)
abbrev pub with_new_at : Option ℕ → ℕ → Thread → ThreadTable → ThreadTable
with_new_at None p thread table = table
with_new_at (Some k) p thread table = with_slot p k (Some thread) thread.priority table

-- a new thread at the least free number, if there is one (pthread_create)
abbrev pub with_new : ℕ → Thread → ThreadTable → ThreadTable
with_new p thread table = with_new_at (least_free (part_of table.threads p)) p thread table

-- the stored priorities where this is left at a number: 0 of a free number, and else they stay
abbrev pub stored_left : ℕ → ℕ → Option Thread → List (List ℕ) → List (List ℕ)
stored_left p k None stored = slice_set stored p (pool_set (part_of stored p) k 0)
stored_left p k (Some thread) stored = stored

-- this is left at a number
abbrev pub with_rest : ℕ → ℕ → Option Thread → ThreadTable → ThreadTable
with_rest p k rest table =
    record table {
      threads = slice_set table.threads p (pool_set (part_of table.threads p) k rest);
      stored = stored_left p k rest table.stored;
    }

-- what f leaves of the thread of a number, which is free where f leaves nothing
abbrev pub with_left : ℕ → ℕ → (Thread → Option Thread) → ThreadTable → ThreadTable
with_left p k f table = with_rest p k (option_and_then f (thread_in table p k)) table

-- ---- one partition's queues changed

-- a partition's queues changed by f
abbrev pub with_queues : ℕ → (List (List ℕ) → List (List ℕ)) → ThreadTable → ThreadTable
with_queues p f table = record table { queues = slice_set table.queues p (f (part_of table.queues p)) }

-- ---- one field of a thread changed

-- these registers and pc (RISC-V 2.1)
abbrev pub with_cpu : Processor → Thread → Thread
with_cpu cpu thread = record thread { cpu = cpu }

-- this thread in place of the other
abbrev pub replaced_by : Thread → Thread → Thread
replaced_by thread old = thread

-- this policy (pthread_setschedparam)
abbrev pub with_policy : Policy → Thread → Thread
with_policy policy thread = record thread { policy = policy }

-- this assigned priority (pthread_setschedprio)
abbrev pub with_priority : ℕ → Thread → Thread
with_priority priority thread = record thread { priority = priority }

-- these ticks used of a round-robin interval (XSH 2.8.4, SCHED_RR)
abbrev pub with_used : ℕ → Thread → Thread
with_used used thread = record thread { used = used }

-- this phase (pthread_exit)
abbrev pub with_phase : Phase → Thread → Thread
with_phase phase thread = record thread { phase = phase }

-- this joiner (pthread_join)
abbrev pub with_joiner : Option ℕ → Thread → Thread
with_joiner joiner thread = record thread { joiner = joiner }

-- this result (pthread_exit)
abbrev pub with_result : ℕ → Thread → Thread
with_result result thread = record thread { result = result }

-- this wait, or none (XSH 2.8.4)
abbrev pub with_wait : Option Wait → Thread → Thread
with_wait wait thread = record thread { wait = wait }
