-- What always holds of a queue of deadlines.
use Rattle.std.specs.Prelude.{◌≡◌, ℕ, ◌<◌, true, List, nat_eq}
use Rattle.std.specs.List.{IsDistinct}
use Rattle.ptk_words.specs.Pools.{is_in}
use Rattle.ptk_clock.specs.Pairs.{Pair, slots_of, AreInOrder}

-- pairs in order, at most one for each of this many slots
pub record AreDeadlines (slots : ℕ) (pairs : List Pair) : Type 0 where
  pub in_order : AreInOrder pairs
  pub distinct : IsDistinct nat_eq (slots_of pairs)
  pub below : (q : ℕ) → is_in q (slots_of pairs) ≡ true → q < slots
