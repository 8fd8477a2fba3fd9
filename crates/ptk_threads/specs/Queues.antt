-- The queues of each partition's threads, and what each call makes of those of one partition (own).
use Rattle.std.specs.Prelude.{◌≡◌, ℕ, ◌+◌, ◌<◌, false, List, [], ◌∷◌, ◌++◌, length, drop, Option, slice_set, map, replicate}
use Rattle.ptk_words.specs.Pools.{is_in, without}
use Rattle.ptk_words.specs.declared.threads.Thread.{Thread}
use Rattle.ptk_words.specs.Parts.{part_of, filled}
use Rattle.ptk_threads.specs.declared.link.Ends.{Ends}
use Rattle.ptk_threads.specs.declared.link.QueueName.{QueueName}
use Rattle.ptk_threads.specs.declared.slot.Slot.{Slot}
use Rattle.ptk_threads.specs.Links.{links_of, place_of, queues, free_slot, AreQueues, AreLinksFrom}
use Rattle.ptk_threads.specs.LinkChanges.{put_before}
use Rattle.ptk_clock.specs.ByThread.{first_slot}

-- ---- one partition's queues by place

-- every queue is empty
abbrev pub no_queues : ℕ → List (List ℕ)
no_queues count = replicate 128 []

-- the thread lies in no queue
abbrev pub IsUnqueued : ℕ → List (List ℕ) → Type 0
IsUnqueued k lists = (i : ℕ) → is_in k (part_of lists i) ≡ false

-- k is the last of a queue
abbrev pub with_last : QueueName → ℕ → List (List ℕ) → List (List ℕ)
with_last name k lists = slice_set lists (place_of name) (part_of lists (place_of name) ++ k ∷ [])

-- k is the first of a queue
abbrev pub with_first : QueueName → ℕ → List (List ℕ) → List (List ℕ)
with_first name k lists = slice_set lists (place_of name) (k ∷ part_of lists (place_of name))

-- k is before another thread, in the queue in which that one lies
abbrev pub with_before : ℕ → ℕ → List (List ℕ) → List (List ℕ)
with_before k before lists = map (put_before k before) lists

-- k is in no queue
abbrev pub with_none : ℕ → List (List ℕ) → List (List ℕ)
with_none k lists = map (without k) lists

-- k is not in this queue
abbrev pub with_out : QueueName → ℕ → List (List ℕ) → List (List ℕ)
with_out name k lists = slice_set lists (place_of name) (without k (part_of lists (place_of name)))

-- a queue has lost its first thread
abbrev pub without_first : QueueName → List (List ℕ) → List (List ℕ)
without_first name lists = slice_set lists (place_of name) (drop 1 (part_of lists (place_of name)))

-- ---- all partitions' slots

-- by partition: the threads by number, and the queues by place
pub record LinkedThreads : Type 0 where
  pub threads : List (List (Option Thread))
  pub queues : List (List (List ℕ))

-- the queues of each partition, read along the links of its slots
abbrev pub queues_by : List (List Slot) → List (List Ends) → List (List (List ℕ))
queues_by [] ends = []
queues_by (part ∷ parts) [] = [] ∷ queues_by parts []
queues_by (part ∷ parts) (end ∷ ends) = queues (links_of part) end ∷ queues_by parts ends

-- as many free slots for each partition as its count, of which the first of all has this number
abbrev pub free_parts : ℕ → List ℕ → List (List Slot)
free_parts first [] = []
free_parts first (count ∷ counts) = filled (free_slot first) count ∷ free_parts (first + count) counts

-- the links of each partition's slots make 128 queues, and name slots from the partition's first on
pub record AreLinked (slots : List (List Slot)) (ends : List (List Ends)) : Type 0 where
  pub parts : length ends ≡ length slots
  pub places : (p : ℕ) → p < length slots → length (part_of ends p) ≡ 128
  pub each : (p : ℕ) → AreQueues (links_of (part_of slots p)) (part_of ends p)
  pub own : (p : ℕ) → AreLinksFrom (first_slot p slots) (part_of slots p)

-- each partition has 128 queues
pub record AreListed (parts : ℕ) (queues : List (List (List ℕ))) : Type 0 where
  pub same : length queues ≡ parts
  pub places : (p : ℕ) → p < parts → length (part_of queues p) ≡ 128
