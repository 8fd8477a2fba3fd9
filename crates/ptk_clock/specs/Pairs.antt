-- Deadlines of slots as pairs, in order.
use Rattle.std.specs.Prelude.{◌≡◌, ⊤, ℕ, Bool, true, false, not, ◌&&◌, ◌||◌, ◌==◌, nat_lt, nat_le, List, [], ◌∷◌, filter, find, map, Option, Some, None}
use Rattle.ptk_words.specs.Names.{Tick}
use Rattle.ptk_words_sync_invariant.specs.Withdrawal.{in_order_with}

-- a deadline, and the slot of the thread that waits until then
abbrev pub Pair : Type 0
Pair = ℕ × ℕ

-- for how many slots a queue of deadlines was made, and its pairs in order
pub record DeadlineTable : Type 0 where
  pub slots : ℕ
  pub pairs : List Pair

-- the slots of the pairs
abbrev pub slots_of : List Pair → List ℕ
slots_of pairs = map (λ pair. pair.1) pairs

-- ---- the order

-- one pair is before another, by the deadline and then by the slot
abbrev pub is_before : Pair → Pair → Bool
is_before a b = nat_lt a.0 b.0 || (a.0 == b.0 && nat_lt a.1 b.1)

-- a pair is before each of these
abbrev pub IsBeforeAll : Pair → List Pair → Type 0
IsBeforeAll a [] = ⊤
IsBeforeAll a (b ∷ bs) = (is_before a b ≡ true) × IsBeforeAll a bs

-- each pair is before those after it
abbrev pub AreInOrder : List Pair → Type 0
AreInOrder [] = ⊤
AreInOrder (a ∷ bs) = IsBeforeAll a bs × AreInOrder bs

-- ---- what the calls leave and tell

-- pairs in order with one more
abbrev pub with_pair : Pair → List Pair → List Pair
with_pair a pairs = in_order_with is_before a pairs

-- the pairs without that of a slot
abbrev pub without_slot : ℕ → List Pair → List Pair
without_slot slot pairs = filter (λ pair. not (pair.1 == slot)) pairs

-- the pairs without the one that was taken, if one was
abbrev pub without_taken : Option Pair → List Pair → List Pair
without_taken None pairs = pairs
without_taken (Some pair) pairs = without_slot pair.1 pairs

-- the pair is of a slot from the first to the last
abbrev pub is_among : ℕ → ℕ → Pair → Bool
is_among first last pair = nat_le first pair.1 && nat_le pair.1 last

-- the pair is of a slot from the first to the last, and its deadline is at most the tick
abbrev pub is_due : ℕ → ℕ → Tick → Pair → Bool
is_due first last now pair = is_among first last pair && nat_le pair.0 now

-- of pairs in order, the least among the slots from the first to the last
abbrev pub least_among : ℕ → ℕ → List Pair → Option Pair
least_among first last pairs = find (is_among first last) pairs

-- of pairs in order, the least due among the slots from the first to the last
abbrev pub least_due : ℕ → ℕ → Tick → List Pair → Option Pair
least_due first last now pairs = find (is_due first last now) pairs

-- no pair that passes the test is before this one
abbrev pub IsLeast : (Pair → Bool) → List Pair → Pair → Type 0
IsLeast test [] least = ⊤
IsLeast test (a ∷ bs) least = (test a ≡ true → is_before a least ≡ false) × IsLeast test bs least
