-- Deadlines by partition and thread number, kept by slot: each partition's slots lie behind those of the one before.
use Rattle.std.specs.Prelude.{◌≡◌, ℕ, zero, suc, ◌+◌, ◌≤◌, ◌⊎◌, Bool, false, nat_le, List, [], ◌∷◌, length, min, Option, Some, None}
use Rattle.ptk_words.specs.Names.{Tick}
use Rattle.ptk_clock.specs.Pairs.{Pair}
use Rattle.ptk_clock.specs.BySlot.{deadlines_from}
use Rattle.ptk_clock.specs.declared.threads.PartitionSlots.{PartitionSlots}

-- ---- the least deadline

-- the earlier of two deadlines, if there is one (own)
abbrev pub earlier : Option Tick → Option Tick → Option Tick
earlier None b = b
earlier (Some a) None = Some a
earlier (Some a) (Some b) = Some (min a b)

-- the least of the deadlines, None where no thread has one (own)
abbrev pub least_deadline : List (Option Tick) → Option Tick
least_deadline [] = None
least_deadline (d ∷ ds) = earlier d (least_deadline ds)

-- a deadline is reached at a tick (own)
abbrev pub is_reached : Tick → Option Tick → Bool
is_reached now None = false
is_reached now (Some deadline) = nat_le deadline now

-- ---- the slots of the partitions

-- the first slot of a partition: the lengths of the lists before its own, added (own)
abbrev pub first_slot : {A : Type 0} → ℕ → List (List A) → ℕ
first_slot p [] = 0
first_slot zero (part ∷ parts) = 0
first_slot (suc p) (part ∷ parts) = length part + first_slot p parts

-- by partition and thread number: the deadlines of each partition's slots
abbrev pub deadlines_by_partition : List PartitionSlots → List Pair → List (List (Option Tick))
deadlines_by_partition [] pairs = []
deadlines_by_partition (s ∷ ss) pairs = deadlines_from s.first s.count pairs ∷ deadlines_by_partition ss pairs

-- from a slot on, each partition's slots, at most 32, begin where those of the one before end; the last end in time (own)
abbrev pub AreLaid : ℕ → ℕ → List PartitionSlots → Type 0
AreLaid start slots [] = start ≤ slots
AreLaid start slots (s ∷ ss) = (s.first ≡ start) × (s.count ≤ 32) × AreLaid (start + s.count) slots ss

-- beside each partition's slots stands their least deadline (own)
abbrev pub AreLeast : List Pair → List PartitionSlots → Type 0
AreLeast pairs [] = Unit {0}
AreLeast pairs (s ∷ ss) = (s.next ≡ least_deadline (deadlines_from s.first s.count pairs)) × AreLeast pairs ss

-- what always holds of the partitions' slots beside the pairs of all (own)
pub record AreThreadDeadlines (slots : ℕ) (pairs : List Pair) (partitions : List PartitionSlots) : Type 0 where
  pub few : slots ≤ 256
  pub laid : AreLaid 0 slots partitions
  pub least : AreLeast pairs partitions

-- slots for these numbers of threads, one for each partition, from a slot on, and no deadline (own)
abbrev pub laid_from : ℕ → List ℕ → List PartitionSlots
laid_from start [] = []
laid_from start (n ∷ ns) = record { first = start; count = n; next = None } ∷ laid_from (start + n) ns

-- where slots for these numbers of threads, one for each partition, end (own)
abbrev pub end_from : ℕ → List ℕ → ℕ
end_from start [] = start
end_from start (n ∷ ns) = end_from (start + n) ns

-- ---- a change of one partition's pairs

-- the deadlines of slots before and behind these stay (own)
abbrev pub IsElsewhereSame : ℕ → ℕ → List Pair → List Pair → Type 0
IsElsewhereSame first n old new = (start m : ℕ) → (start + m ≤ first) ⊎ (first + n ≤ start) → deadlines_from start m new ≡ deadlines_from start m old

-- the slots of the partitions, with the least deadline of one made again (own)
abbrev pub with_least : ℕ → List Pair → List PartitionSlots → List PartitionSlots
with_least p pairs [] = []
with_least zero pairs (s ∷ ss) = record s { next = least_deadline (deadlines_from s.first s.count pairs) } ∷ ss
with_least (suc p) pairs (s ∷ ss) = s ∷ with_least p pairs ss
