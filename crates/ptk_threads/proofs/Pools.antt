-- The entry of a number in a pool after changes, and a partition's list after them: for the crates above.
use Rattle.std.proofs.Common.{◌≡◌, ◌≢◌, ℕ, zero, suc, ◌<◌, List, [], ◌∷◌, length, false, refl, sym, ◌∙◌, ap, Bor}
use Rattle.std.specs.Prelude.{Option, Some, None, option_map, slice_get}
use Rattle.std.specs.Option.{is_some, option_copied, option_flatten}
use Rattle.std.proofs.Math.ListN.{set}
use Rattle.std.proofs.lemmas.List.{set-get_or, get_or-set_same, get_or-set_other}
use Rattle.ptk_words.specs.Pools.{pool_get, pool_changed}
use Rattle.ptk_words.specs.Parts.{part_of}

-- ---- a change of a free number

same-free : {A : Type 0} (f : A → A) (x : Option A) → x ≡ None → option_map f x ≡ x
same-free f None e = refl
same-free f (Some a) e = cc

entry-free : {A : Type 0} (f : A → A) (pool : List (Option A)) (i : ℕ) → option_flatten (slice_get pool i) ≡ None → set pool i (option_map f (option_flatten (slice_get pool i))) ≡ pool
entry-free f [] i e = refl
entry-free f (x ∷ pool) zero e = ap (λ y. y ∷ pool) (same-free f x e)
entry-free f (x ∷ pool) (suc i) e = ap (λ rest. x ∷ rest) (entry-free f pool i e)

-- a change of a free number is none
pub pool_changed-free : {A : Type 0} (k : ℕ) (f : A → A) (pool : List (Option A)) → pool_get pool k ≡ None → pool_changed k f pool ≡ pool
pool_changed-free zero f pool e = refl
pool_changed-free (suc i) f pool e = entry-free f pool i e

-- nothing was seen of a number
none_copied : {A : Type 0} (seen : Option (Bor A)) → is_some seen ≡ false → option_copied seen ≡ None
none_copied None e = refl
none_copied (Some a) e = absurd (cc)

-- ---- a partition's list

pub part_of-set : {X : Type 0} (parts : List (List X)) (p : ℕ) (part : List X) → p < length parts → part_of (set parts p part) p ≡ part
part_of-set parts p part lt = get_or-set_same parts p part [] lt

pub part_of-set_other : {X : Type 0} (parts : List (List X)) (p q : ℕ) (part : List X) → q ≢ p → part_of (set parts p part) q ≡ part_of parts q
part_of-set_other parts p q part ne = get_or-set_other parts p q part [] ne

-- a change of a free number of a partition is none
pub unused_same : {A : Type 0} (seen : Option (Bor A)) (p k : ℕ) (f : A → A) (threads : List (List (Option A))) → is_some seen ≡ false → option_copied seen ≡ pool_get (part_of threads p) k
    → set threads p (pool_changed k f (part_of threads p)) ≡ threads
unused_same seen p k f threads none told =
    ap (set threads p) (pool_changed-free k f (part_of threads p) (sym told ∙ none_copied seen none)) ∙ set-get_or threads p []
