-- Threads of one partition in queues that are linked through its slots.
use Rattle.std.specs.Prelude.{◌≡◌, ℕ, zero, suc, ◌+◌, ◌-◌, ◌%◌, ◌<◌, ◌≤◌, true, List, [], ◌∷◌, length, map, Option, Some, None, option_map, slice_index_or, nat_eq}
use Rattle.std.specs.List.{IsDistinct}
use Rattle.ptk_words.specs.Pools.{pool_set, is_in}
use Rattle.ptk_words.specs.declared.threads.Thread.{Thread}
use Rattle.ptk_threads.specs.declared.link.SlotLink.{SlotLink}
use Rattle.ptk_threads.specs.declared.link.Link.{Link}
use Rattle.ptk_threads.specs.declared.link.Ends.{Ends}
use Rattle.ptk_threads.specs.declared.link.QueueName.{QueueName}
use Rattle.ptk_threads.specs.declared.link.QueueName.TheVariants.{Ready, MutexWaiters, ConditionWaiters}
use Rattle.ptk_threads.specs.declared.slot.Slot.{Slot}

-- ---- names

-- a queue's place among its partition's: 32 of ready threads, 64 of mutexes, 32 of condition variables
abbrev pub place_of : QueueName → ℕ
place_of (Ready priority) = priority - 1
place_of (MutexWaiters m) = m + 31
place_of (ConditionWaiters c) = c + 95

-- the numbers of a name are those of a priority, a mutex or a condition variable
abbrev pub IsQueueName : QueueName → Type 0
IsQueueName (Ready priority) = (0 < priority) × (priority ≤ 32)
IsQueueName (MutexWaiters m) = (0 < m) × (m ≤ 64)
IsQueueName (ConditionWaiters c) = (0 < c) × (c ≤ 32)

-- ---- reading

-- the link of a thread in no queue
abbrev pub no_link : Link
no_link = record { previous = None; next = None; queue = None }

-- the ends of an empty queue
abbrev pub no_ends : Ends
no_ends = record { first = None; last = None }

-- ---- slots of the shared table

-- the slot of a thread in the partition that begins at first
abbrev pub slot_at : ℕ → ℕ → ℕ
slot_at first k = first + (k - 1)

-- the thread of a slot in the partition that begins at first: a partition has at most 32
abbrev pub number_at : ℕ → ℕ → ℕ
number_at first slot = (slot - first) % 32 + 1

-- a link of the partition's numbers as one of slots
abbrev pub shared_link : ℕ → Link → SlotLink
shared_link first link = record { first = first; previous = option_map (slot_at first) link.previous; next = option_map (slot_at first) link.next; queue = link.queue }

-- a link of slots as one of the partition's numbers
abbrev pub own_link : SlotLink → Link
own_link link = record { previous = option_map (number_at link.first) link.previous; next = option_map (number_at link.first) link.next; queue = link.queue }

-- the slot of no thread, in the partition that begins at first
abbrev pub free_slot : ℕ → Slot
free_slot first = record { thread = None; link = shared_link first no_link }

-- the links of the slots as they are kept
abbrev pub shared_links : List Slot → List SlotLink
shared_links slots = map (λ (slot : Slot). slot.link) slots

-- the links of the slots in numbers of the partition
abbrev pub links_of : List Slot → List Link
links_of slots = map (λ (slot : Slot). own_link slot.link) slots

-- the threads of the slots
abbrev pub threads_of : List Slot → List (Option Thread)
threads_of slots = map (λ (slot : Slot). slot.thread) slots

-- the slots' links are those of a partition that begins at first
abbrev pub AreLinksFrom : ℕ → List Slot → Type 0
AreLinksFrom first slots = shared_links slots ≡ map (shared_link first) (links_of slots)

-- the link of a number, that of no queue past the slots
abbrev pub link_in : List Link → ℕ → Link
link_in links zero = no_link
link_in links (suc i) = slice_index_or links i no_link

-- the ends of the queue at a place, those of an empty one past the last
abbrev pub ends_at : List Ends → ℕ → Ends
ends_at ends i = slice_index_or ends i no_ends

-- the place of the queue that a thread lies in
abbrev pub mark_of : List Link → ℕ → Option ℕ
mark_of links k = option_map place_of (link_in links k).queue

-- the list that the links lead along, from a thread on, of at most this many threads
abbrev pub walk : ℕ → List Link → Option ℕ → List ℕ
walk zero links at = []
walk (suc many) links None = []
walk (suc many) links (Some k) = k ∷ walk many links (link_in links k).next

-- a queue's list is what the links lead along from its first thread
abbrev pub queue_from : List Link → Ends → List ℕ
queue_from links end = walk (suc (length links)) links end.first

-- the list of the queue at a place
abbrev pub queue_at : List Link → List Ends → ℕ → List ℕ
queue_at links ends i = queue_from links (ends_at ends i)

-- the lists of all queues, by place
abbrev pub queues : List Link → List Ends → List (List ℕ)
queues links ends = map (queue_from links) ends

-- ---- writing

-- this thread, if it is one, is followed by next
abbrev pub with_next : Option ℕ → Option ℕ → List Link → List Link
with_next None next links = links
with_next (Some k) next links = pool_set links k (record (link_in links k) { next = next })

-- this thread, if it is one, follows previous
abbrev pub with_previous : Option ℕ → Option ℕ → List Link → List Link
with_previous None previous links = links
with_previous (Some k) previous links = pool_set links k (record (link_in links k) { previous = previous })

-- the first of a queue: this one where nobody is before it, else the old one
abbrev pub first_after : Option ℕ → Option ℕ → Option ℕ → Option ℕ
first_after None first old = first
first_after (Some k) first old = old

-- the last of a queue: this one where nobody is behind it, else the old one
abbrev pub last_before : Option ℕ → Option ℕ → Option ℕ → Option ℕ
last_before None last old = last
last_before (Some k) last old = old

-- ---- what the links of a queue are

-- the first of a list, or this where it is empty
abbrev pub first_or : Option ℕ → List ℕ → Option ℕ
first_or a [] = a
first_or a (x ∷ xs) = Some x

-- the last of a list, or this where it is empty
abbrev pub last_or : Option ℕ → List ℕ → Option ℕ
last_or b [] = b
last_or b (x ∷ xs) = last_or (Some x) xs

-- the thread lies in the queue at this place, between these two
pub record IsLink (links : List Link) (i : ℕ) (before after : Option ℕ) (k : ℕ) : Type 0 where
  pub previous : (link_in links k).previous ≡ before
  pub next : (link_in links k).next ≡ after
  pub queue : mark_of links k ≡ Some i

-- the links lead along the list in both directions, from before to after
abbrev pub IsAlong : List Link → ℕ → Option ℕ → Option ℕ → List ℕ → Type 0
IsAlong links i before after [] = Unit {0}
IsAlong links i before after (x ∷ xs) = IsLink links i before (first_or after xs) x × IsAlong links i (Some x) after xs

-- the line is the queue at this place: its links lead along it, no thread is in it twice, and the ends are its first and its last
pub record IsQueue (links : List Link) (end : Ends) (i : ℕ) (line : List ℕ) : Type 0 where
  pub along : IsAlong links i None None line
  pub distinct : IsDistinct nat_eq line
  pub first : end.first ≡ first_or None line
  pub last : end.last ≡ last_or None line

-- each queue's links lead along its list, a thread that has a queue's mark is in its list, and one without a mark has no neighbours
pub record AreQueues (links : List Link) (ends : List Ends) : Type 0 where
  pub each : (i : ℕ) → IsQueue links (ends_at ends i) i (queue_at links ends i)
  pub marked : (k i : ℕ) → mark_of links k ≡ Some i → is_in k (queue_at links ends i) ≡ true
  pub unmarked : (k : ℕ) → mark_of links k ≡ None → link_in links k ≡ no_link
