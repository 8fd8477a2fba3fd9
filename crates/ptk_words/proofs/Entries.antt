-- Entries by number, read and written at an index, and the lengths of their lists.
use Rattle.std.proofs.Common.{arith, ◌≡◌, ℕ, ◌-◌, ◌<◌, ◌≤◌, zero, suc, List, [], ◌∷◌, length, get_or, map, refl, sym, ◌∙◌, ap}
use Rattle.std.specs.Prelude.{Some, option_map, unwrap_or, replicate, slice_get, slice_set}
use Rattle.std.proofs.lemmas.Option.{slice_get_past}
use Rattle.std.proofs.Math.ListN.{set}
use Rattle.ptk_words.specs.Pools.{numbered, pool_set, pool_update}
use Rattle.ptk_words.specs.declared.sections.Limits.{Limits}
use Rattle.ptk_words.specs.Parts.{filled, part_of}

entry_at : {A : Type 0} (xs : List A) (i : ℕ) (x : A) → i < length xs → x ≡ get_or xs i x → slice_get xs i ≡ Some x
entry_at [] i x lt e = absurd (omega (arith, lt))
entry_at (y ∷ ys) zero x lt e = ap Some (sym e)
entry_at (y ∷ ys) (suc i) x lt e = entry_at ys i x (omega (arith, lt)) e

pub numbered_below : {A : Type 0} (xs : List A) (k : ℕ) → 0 < k → numbered xs k ≡ slice_get xs (k - 1)
numbered_below xs zero h = absurd (omega (arith, h))
numbered_below xs (suc i) h = let e : suc i - 1 ≡ i = omega arith in rw e refl

-- an entry is changed, as the code makes it
pub updated_at : {A : Type 0} (k : ℕ) (f : A → A) (xs new : List A) (x : A) → 0 < k → k - 1 < length xs → x ≡ get_or xs (k - 1) x → new ≡ slice_set xs (k - 1) (f x) → new ≡ pool_update xs k f
updated_at zero f xs new x h lt is e = absurd (omega (arith, h))
updated_at (suc i) f xs new x h lt is e =
    let same : suc i - 1 ≡ i = omega arith in
    let within : i < length xs = omega (arith, lt) in
    rw same at e ∙ sym (ap (λ o. unwrap_or (option_map (λ a. slice_set xs i (f a)) o) xs) (entry_at xs i x within (rw same at is)))

pub updated_past : {A : Type 0} (k : ℕ) (f : A → A) (xs : List A) → 0 < k → length xs ≤ k - 1 → xs ≡ pool_update xs k f
updated_past zero f xs h le = absurd (omega (arith, h))
updated_past (suc i) f xs h le =
    let past : length xs ≤ i = omega (arith, le) in
    sym (ap (λ o. unwrap_or (option_map (λ a. slice_set xs i (f a)) o) xs) (slice_get_past xs i past))

-- ---- an entry written

entry_within : {A : Type 0} (xs : List A) (i : ℕ) (ys zs : List A) → i < length xs → unwrap_or (option_map (λ _. ys) (slice_get xs i)) zs ≡ ys
entry_within [] i ys zs lt = absurd (omega (arith, lt))
entry_within (x ∷ xs) zero ys zs lt = refl
entry_within (x ∷ xs) (suc i) ys zs lt = entry_within xs i ys zs (omega (arith, lt))

pub updated_to : {A : Type 0} (k : ℕ) (a : A) (xs new : List A) → 0 < k → k - 1 < length xs → new ≡ slice_set xs (k - 1) a → new ≡ pool_update xs k (λ _. a)
updated_to zero a xs new h lt e = absurd (omega (arith, h))
updated_to (suc i) a xs new h lt e =
    let same : suc i - 1 ≡ i = omega arith in
    let within : i < length xs = omega (arith, lt) in
    rw same at e ∙ sym (entry_within xs i (slice_set xs i a) xs within)

-- ---- made for each section

pub filled_per : {A : Type 0} (count : Limits → ℕ) (a : A) (limits : List Limits) → map (filled a) (map count limits) ≡ map (λ l. replicate (count l) a) limits
filled_per count a [] = refl
filled_per count a (l ∷ ls) = ap (λ rows. replicate (count l) a ∷ rows) (filled_per count a ls)

-- ---- the list of a partition

-- the list that is set is the partition's
pub own_row : {A : Type 0} (rows : List (List A)) (p k : ℕ) (x : A) → part_of (set rows p (pool_set (part_of rows p) k x)) p ≡ pool_set (part_of rows p) k x
own_row [] p zero x = refl
own_row [] p (suc i) x = refl
own_row (row ∷ rows) zero k x = refl
own_row (row ∷ rows) (suc p) k x = own_row rows p k x

-- lists keep their lengths where the one that is set does
pub length_part-set : {X : Type 0} (rows : List (List X)) (p q : ℕ) (row : List X) → length row ≡ length (part_of rows p) → length (part_of (set rows p row) q) ≡ length (part_of rows q)
length_part-set [] p q row e = refl
length_part-set (x ∷ rows) zero zero row e = e
length_part-set (x ∷ rows) zero (suc q) row e = refl
length_part-set (x ∷ rows) (suc p) zero row e = refl
length_part-set (x ∷ rows) (suc p) (suc q) row e = length_part-set rows p q row e

-- of empty lists each is empty
pub all_empty : (m i : ℕ) → part_of {X = ℕ} (replicate m []) i ≡ []
all_empty zero i = refl
all_empty (suc m) zero = refl
all_empty (suc m) (suc i) = all_empty m i
