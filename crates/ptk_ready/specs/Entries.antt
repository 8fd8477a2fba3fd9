-- The line of one partition's ready threads, read from its links and stamps (XSH 2.8.4).
use Rattle.std.specs.Prelude.{◌≡◌, ℕ, zero, suc, ◌<◌, ◌==◌, nat_lt, Bool, true, false, ℤ, pos, ◌≤ℤ◌, neg_ℤ, List, [], ◌∷◌, length, filter, Option, Some, None, slice_index_or}
use Rattle.ptk_words.specs.Pools.{numbers_to}
use Rattle.ptk_threads.specs.Table.{stored_of}
use Rattle.ptk_threads.specs.declared.link.Link.{Link}
use Rattle.ptk_threads.specs.declared.link.Ends.{Ends}
use Rattle.ptk_threads.specs.Links.{mark_of, queue_at, AreQueues}
use Rattle.ptk_ready.specs.declared.stamps.StampRange.{StampRange}
use Rattle.ptk_ready.specs.Orders.{in_order}
use Rattle.ptk_ready.specs.Bits.{has_bit}

-- ---- the list

-- the place is that of a queue of ready threads: the first 32
abbrev pub is_ready_place : Option ℕ → Bool
is_ready_place None = false
is_ready_place (Some i) = nat_lt i 32

-- the thread is marked as ready
abbrev pub is_ready : List Link → ℕ → Bool
is_ready links k = is_ready_place (mark_of links k)

-- the ready threads by number
abbrev pub ready_of : List Link → List ℕ
ready_of links = filter (is_ready links) (numbers_to (length links))

-- the stamp of a number, 0 past the list
abbrev pub stamp_of : List ℤ → ℕ → ℤ
stamp_of stamps zero = pos 0
stamp_of stamps (suc i) = slice_index_or stamps i (pos 0)

-- the line: the ready threads in the order of their stamps
abbrev pub entries : List Link → List ℤ → List ℕ
entries links stamps = in_order (stamp_of stamps) (ready_of links)

-- ---- what holds between calls

-- the threads of a list whose stored priority is this one
abbrev pub of_priority : List ℕ → ℕ → List ℕ → List ℕ
of_priority stored priority ks = filter (λ k. stored_of stored k == priority) ks

-- there is a thread in the list
abbrev pub has_any : List ℕ → Bool
has_any [] = false
has_any (k ∷ ks) = true

-- the stamp is in the range
abbrev pub IsInRange : StampRange → ℤ → Type 0
IsInRange range stamp = (range.first ≤ℤ stamp) × (stamp ≤ℤ range.last)

-- the range's ends are in their order, and of at most this magnitude
abbrev pub IsRange : ℕ → StampRange → Type 0
IsRange limit range = (neg_ℤ (pos limit) ≤ℤ range.first) × (range.first ≤ℤ range.last) × (range.last ≤ℤ pos limit)

-- ready threads have stamps of their own, all in this range
pub record AreStamps (limit : ℕ) (range : StampRange) (links : List Link) (stamps : List ℤ) : Type 0 where
  pub apart : (j k : ℕ) → is_ready links j ≡ true → is_ready links k ≡ true → stamp_of stamps j ≡ stamp_of stamps k → j ≡ k
  pub within : (k : ℕ) → is_ready links k ≡ true → IsInRange range (stamp_of stamps k)
  pub limits : IsRange limit range

-- queue i is the line's threads of priority i + 1 in the line's order, and bit i tells whether it has any
pub record IsSound (limit : ℕ) (range : StampRange) (links : List Link) (ends : List Ends) (stored : List ℕ) (stamps : List ℤ) (bitmap : ℕ) : Type 0 where
  pub queues : AreQueues links ends
  pub stamped : AreStamps limit range links stamps
  pub lines : (i : ℕ) → i < 32 → queue_at links ends i ≡ of_priority stored (suc i) (entries links stamps)
  pub bits : (i : ℕ) → i < 32 → has_bit bitmap i ≡ has_any (queue_at links ends i)
