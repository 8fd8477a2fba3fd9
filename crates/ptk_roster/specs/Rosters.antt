-- The slot table, the line of ready threads, the mutexes and the condition variables in one: what is seen of them, and what holds of them together (XSH 2.8.4).
use Rattle.std.specs.Prelude.{◌≡◌, ℕ, suc, ◌+◌, ◌<◌, ◌≤◌, Bool, true, false, List, [], length, Option, None, IsSome, unwrap_or}
use Rattle.ptk_words.specs.Pools.{pool_get, numbered, is_in}
use Rattle.ptk_words.specs.Parts.{part_of}
use Rattle.ptk_words_model.specs.State.{Mutex, Condition}
use Rattle.ptk_words_model.specs.Mutex.{waiters_of}
use Rattle.ptk_words_model.specs.Condition.{waiters_on}
use Rattle.ptk_threads.specs.Table.{ThreadTable, thread_in, AreLevels}
use Rattle.ptk_roster.specs.Slots.{bare}
use Rattle.ptk_ready.specs.Entries.{of_priority}
use Rattle.ptk_ready.specs.declared.entries.LinkedEntries.{LinkedEntries}
use Rattle.ptk_ready.specs.Partitions.{lines_by, AreFiled}

-- what is seen: the slot table without its queues, and by partition the line, and the mutexes and condition variables by number
pub record Rostered : Type 0 where
  pub table : ThreadTable
  pub lines : List (List ℕ)
  pub mutexes : List (List (Option Mutex))
  pub conditions : List (List (Option Condition))

-- the slot table without its queues, which line, mutexes and condition variables tell (own)
abbrev pub seen : ThreadTable → ThreadTable
seen table = record table { queues = [] }

-- a partition's queues are the line's threads of each stored priority in the line's order, and the waiters of each mutex and of each condition variable (own)
pub record AreQueuesIn (stored line : List ℕ) (mutexes : List (Option Mutex)) (conditions : List (Option Condition)) (queues : List (List ℕ)) : Type 0 where
  pub of_ready : (i : ℕ) → i < 32 → part_of queues i ≡ of_priority stored (suc i) line
  pub of_mutexes : (m : ℕ) → 0 < m → m ≤ 64 → part_of queues (m + 31) ≡ waiters_of (pool_get mutexes m)
  pub of_conditions : (c : ℕ) → 0 < c → part_of queues (c + 95) ≡ waiters_on (pool_get conditions c)

-- the queues of each partition of the slot table are those of its line, its mutexes and its condition variables (own)
pub record AreQueuesOf (roster : Rostered) (queues : List (List (List ℕ))) : Type 0 where
  pub each : (p : ℕ) → AreQueuesIn (part_of roster.table.stored p) (part_of roster.lines p) (part_of roster.mutexes p) (part_of roster.conditions p) (part_of queues p)

-- the mark of a number, false past the last
abbrev pub is_marked : List Bool → ℕ → Bool
is_marked marks c = unwrap_or (numbered marks c) false

-- each partition has mutexes and condition variables, no more than there are queues for, no mutex has waiters but those of its queue, and the queue of a number that is not in use is empty (own)
pub record ArePools (table : ThreadTable) (mutexes : List (List (Option Mutex))) (marks : List (List Bool)) : Type 0 where
  pub parts_of_mutexes : length mutexes ≡ length table.threads
  pub parts_of_conditions : length marks ≡ length table.threads
  pub few_mutexes : (p : ℕ) → length (part_of mutexes p) ≤ 64
  pub few_conditions : (p : ℕ) → length (part_of marks p) ≤ 32
  pub bare_mutexes : (p m : ℕ) → bare (pool_get (part_of mutexes p) m) ≡ pool_get (part_of mutexes p) m
  pub free_mutexes : (p m : ℕ) → 0 < m → m ≤ 64 → pool_get (part_of mutexes p) m ≡ None → part_of (part_of table.queues p) (m + 31) ≡ []
  pub free_conditions : (p c : ℕ) → 0 < c → is_marked (part_of marks p) c ≡ false → part_of (part_of table.queues p) (c + 95) ≡ []

-- each partition has a line, whose threads are in use and lie in its queues of ready threads by their stored priorities (own)
pub record IsLined (limit : ℕ) (line : List (LinkedEntries limit)) (table : ThreadTable) : Type 0 where
  pub parts : length line ≡ length table.threads
  pub listed : (p k : ℕ) → is_in k (part_of (lines_by line table.queues) p) ≡ true → IsSome (thread_in table p k)
  pub levels : AreLevels table
  pub filed : AreFiled limit line table

-- lines, mutexes and condition variables agree with the slot table (own)
pub record IsRoster (limit : ℕ) (line : List (LinkedEntries limit)) (table : ThreadTable) (mutexes : List (List (Option Mutex))) (marks : List (List Bool)) : Type 0 where
  pub lined : IsLined limit line table
  pub pools : ArePools table mutexes marks
