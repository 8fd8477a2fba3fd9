-- The queues of all partitions, as the slots of the table that they share show them (own).
use Rattle.std.specs.Prelude.{◌≡◌, ℕ, ◌+◌, ◌<◌, ◌≤◌, ◌⊎◌, true, List, [], ◌∷◌, length, map, Option, Some, None, option_map, slice_index_or}
use Rattle.ptk_words.specs.Pools.{is_in}
use Rattle.ptk_words.specs.declared.threads.Thread.{Thread}
use Rattle.ptk_words.specs.Parts.{part_of}
use Rattle.ptk_clock.specs.ByThread.{first_slot}
use Rattle.ptk_threads.specs.declared.link.SlotLink.{SlotLink}
use Rattle.ptk_threads.specs.declared.slot.Slot.{Slot}
use Rattle.ptk_threads.specs.Links.{place_of, first_or, free_slot, no_link, shared_link, slot_at}

-- the slot is one of the partition's
pub record IsSlotOf (threads : List (List (Option Thread))) (p slot : ℕ) : Type 0 where
  pub from : first_slot p threads ≤ slot
  pub below : slot < first_slot p threads + length (part_of threads p)

-- the link of a slot
abbrev pub link_at : List Slot → ℕ → SlotLink
link_at slots slot = (slice_index_or slots slot (free_slot 0)).link

-- the slot lies in the queue at this place, between these two
pub record IsBetween (slots : List Slot) (i : ℕ) (before after : Option ℕ) (slot : ℕ) : Type 0 where
  pub previous : (link_at slots slot).previous ≡ before
  pub next : (link_at slots slot).next ≡ after
  pub queue : option_map place_of (link_at slots slot).queue ≡ Some i

-- the links of the queue at this place lead along these slots in both directions, from the one after before to the last
abbrev pub IsAlongLinks : List Slot → ℕ → Option ℕ → List ℕ → Type 0
IsAlongLinks slots i before [] = Unit {0}
IsAlongLinks slots i before (slot ∷ rest) = IsBetween slots i before (first_or None rest) slot × IsAlongLinks slots i (Some slot) rest

-- along the links lies the list of each queue of each partition, a slot that has a queue's mark is in its list, and one that has none has no link
pub record AreAlongLinks (slots : List Slot) (threads : List (List (Option Thread))) (queues : List (List (List ℕ))) : Type 0 where
  pub along : (p i : ℕ) → IsAlongLinks slots i None (map (slot_at (first_slot p threads)) (part_of (part_of queues p) i))
  pub marked : (p k i : ℕ) → 0 < k → k ≤ length (part_of threads p) → option_map place_of (link_at slots (slot_at (first_slot p threads) k)).queue ≡ Some i → is_in k (part_of (part_of queues p) i) ≡ true
  pub alone : (p k : ℕ) → 0 < k → k ≤ length (part_of threads p) → (link_at slots (slot_at (first_slot p threads) k)).queue ≡ None → link_at slots (slot_at (first_slot p threads) k) ≡ shared_link (first_slot p threads) no_link

-- no link of a partition's slot leads to another partition's
pub record StayInPartitions (slots : List Slot) (threads : List (List (Option Thread))) : Type 0 where
  pub each : (p slot other : ℕ) → IsSlotOf threads p slot → ((link_at slots slot).previous ≡ Some other) ⊎ ((link_at slots slot).next ≡ Some other) → IsSlotOf threads p other
