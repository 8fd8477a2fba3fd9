-- The line of one partition's ready threads, read from the lists of its queues and the stamps, whatever the links (XSH 2.8.4).
use Rattle.std.specs.Prelude.{◌≡◌, ℕ, suc, ◌<◌, true, ℤ, List, take, filter, Option, Some, None}
use Rattle.ptk_words.specs.Pools.{is_in, without, numbers_to}
use Rattle.ptk_words.specs.Parts.{part_of, joined}
use Rattle.ptk_threads.specs.declared.link.QueueName.TheVariants.{Ready}
use Rattle.ptk_threads.specs.Queues.{with_none, with_last, with_before}
use Rattle.ptk_ready.specs.declared.stamps.StampRange.{StampRange}
use Rattle.ptk_ready.specs.Bits.{has_bit}
use Rattle.ptk_ready.specs.Orders.{in_order}
use Rattle.ptk_ready.specs.Entries.{IsInRange, IsRange, stamp_of, of_priority, has_any}

-- the threads of the first 32 queues, one after another
abbrev pub queued : List (List ℕ) → List ℕ
queued lists = joined (take 32 lists)

-- the line: the threads of these queues in the order of their stamps
abbrev pub line_of : List (List ℕ) → List ℤ → List ℕ
line_of lists stamps = in_order (stamp_of stamps) (filter (λ k. is_in k (queued lists)) (numbers_to 32))

-- queue i is the line's threads of priority i + 1 in the line's order, and bit i tells whether it has any; the stamps are apart and in this range
pub record IsFiled (limit : ℕ) (range : StampRange) (lists : List (List ℕ)) (stored : List ℕ) (stamps : List ℤ) (bitmap : ℕ) : Type 0 where
  pub apart : (j k : ℕ) → is_in j (queued lists) ≡ true → is_in k (queued lists) ≡ true → stamp_of stamps j ≡ stamp_of stamps k → j ≡ k
  pub within : (k : ℕ) → is_in k (queued lists) ≡ true → IsInRange range (stamp_of stamps k)
  pub limits : IsRange limit range
  pub lines : (i : ℕ) → i < 32 → part_of lists i ≡ of_priority stored (suc i) (line_of lists stamps)
  pub bits : (i : ℕ) → i < 32 → has_bit bitmap i ≡ has_any (part_of lists i)

-- the queues with k taken out of its own, and put before another thread, or last into that of a priority's ready threads
abbrev pub with_refiled : Option ℕ → ℕ → ℕ → List (List ℕ) → List (List ℕ)
with_refiled (Some before) priority k lists = with_before k before (with_none k lists)
with_refiled None priority k lists = with_last (Ready priority) k (with_none k lists)

-- the list without this thread, if it is one
abbrev pub without_one : Option ℕ → List ℕ → List ℕ
without_one None ks = ks
without_one (Some k) ks = without k ks
