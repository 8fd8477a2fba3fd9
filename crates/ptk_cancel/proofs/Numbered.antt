-- Entries by number, read and written at an index.
use Rattle.std.proofs.Common.{◌≡◌, ℕ, ◌-◌, ◌<◌, List, length, get_or, sym, ◌∙◌, ap}
use Rattle.std.specs.Prelude.{Bool, true, false, if◌then◌else◌, slice_set}
use Rattle.std.proofs.lemmas.List.{set-get_or}
use Rattle.ptk_words.specs.Pools.{pool_update}
use Rattle.ptk_words.proofs.Entries.{numbered_below, updated_at, updated_past, updated_to}

pub ruleset numbers = (numbered_below, updated_at, updated_past)

-- an entry is changed, or nothing, as the code tells
pub updated_where : {A : Type 0} (b : Bool) (i k : ℕ) (f : A → A) (xs : List A) (x y : A) → i ≡ k - 1 → 0 < k → i < length xs → x ≡ get_or xs i x
    → y ≡ (if b then f (get_or xs i x) else get_or xs i x) → slice_set xs i y ≡ (if b then pool_update xs k f else xs)
updated_where true i k f xs x y at h lt is made =
    updated_at k f xs (slice_set xs i y) x h (rw at at lt) (rw at at is) (ap (λ j. slice_set xs j y) at ∙ ap (slice_set xs (k - 1)) (made ∙ ap f (sym is)))
updated_where false i k f xs x y at h lt is made = ap (slice_set xs i) made ∙ set-get_or xs i x

-- ---- an entry written

pub ruleset entries = (updated_to)
