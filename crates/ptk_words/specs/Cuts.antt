-- One vector cut at ends into a list for each partition.
use Rattle.std.specs.Prelude.{◌≡◌, ℕ, ◌+◌, ◌≤◌, List, [], ◌∷◌, ◌++◌, length, take, drop, slice_range, slice_index}
use Rattle.ptk_words.specs.Parts.{joined}
use Rattle.ptk_words.specs.declared.extents.Extent.{Extent}

-- the lists that begin at a and at each end but the last
abbrev pub cut : {X : Type 0} → ℕ → List ℕ → List X → List (List X)
cut a [] items = []
cut a (b ∷ ends) items = slice_range items a b ∷ cut b ends items

-- the ends ascend from a on, and the last is that of the items
abbrev pub IsCut : {X : Type 0} → ℕ → List ℕ → List X → Type 0
IsCut a [] items = a ≡ length items
IsCut a (b ∷ ends) items = (a ≤ b) × IsCut b ends items

-- where each extent ends
abbrev pub ends_in : List Extent → List ℕ
ends_in [] = []
ends_in (e ∷ extents) = e.end ∷ ends_in extents

-- the first extent begins at a, and each other where the one before it ends
abbrev pub AreInTurn : ℕ → List Extent → Type 0
AreInTurn a [] = Unit {0}
AreInTurn a (e ∷ extents) = (e.start ≡ a) × AreInTurn e.end extents

-- where list p begins
abbrev pub start_at : ℕ → List ℕ → ℕ → ℕ
start_at a ends p = slice_index (a ∷ ends) p

-- where each list ends once they are joined
abbrev pub ends_of : {X : Type 0} → ℕ → List (List X) → List ℕ
ends_of a [] = []
ends_of a (part ∷ parts) = (a + length part) ∷ ends_of (a + length part) parts

-- xs with w written over what is at i
abbrev pub over : {X : Type 0} → ℕ → List X → List X → List X
over i w xs = take i xs ++ (w ++ drop (length w) (drop i xs))

-- as many items as before: ws cut, or filled up from xs
abbrev pub refilled : {X : Type 0} → List X → List X → List X
refilled xs ws = take (length xs) (ws ++ drop (length ws) xs)

-- the lists once w was left behind a loan of list p; where w is as long as the list, they are the lists with w at p
unfoldable pub lent : {X : Type 0} → List (List X) → ℕ → List X → List (List X)
lent parts p w = cut 0 (ends_of 0 parts) (refilled (joined parts) (over (start_at 0 (ends_of 0 parts) p) w (joined parts)))

-- the running sums of ns, from a on
abbrev pub sums_from : ℕ → List ℕ → List ℕ
sums_from a [] = []
sums_from a (n ∷ ns) = (a + n) ∷ sums_from (a + n) ns

-- the last of the ends, or a where there is none
abbrev pub last_end : ℕ → List ℕ → ℕ
last_end a [] = a
last_end a (b ∷ ends) = last_end b ends
