-- A number that is free, and a number that is taken.
use Rattle.std.proofs.Common.{◌≡◌, ℕ, zero, suc, List, [], ◌∷◌, refl, sym, ◌∙◌, ap}
use Rattle.std.specs.Prelude.{Option, Some, None, option_map, slice_get, slice_set}
use Rattle.std.specs.Option.{option_flatten}
use Rattle.ptk_words.specs.Pools.{least_free, pool_get, pool_changed}
use Rattle.ptk_words.specs.declared.threads.Thread.{Thread}
use Rattle.ptk_words.specs.Parts.{part_of}
use Rattle.ptk_threads.specs.Table.{ThreadTable, with_slot, with_new, with_new_at}

-- the least free number gets the thread
pub created_at : (p t : ℕ) (thread : Thread) (table new : ThreadTable) → least_free (part_of table.threads p) ≡ Some t → new ≡ with_new p thread table → new ≡ with_slot p t (Some thread) thread.priority table
created_at p t thread table new free e = e ∙ ap (λ (k : Option ℕ). with_new_at k p thread table) free

pub ruleset taken = (created_at)

none_set : {A : Type 0} (pool : List (Option A)) (i : ℕ) → option_flatten (slice_get pool i) ≡ None → pool ≡ slice_set pool i None
none_set [] i e = refl
none_set (None ∷ xs) zero e = refl
none_set (Some x ∷ xs) zero e = absurd (cc e)
none_set (x ∷ xs) (suc i) e = ap (λ ys. x ∷ ys) (none_set xs i e)

-- a free number stays free
pub changed_none : {A : Type 0} (k : ℕ) (f : A → A) (pool : List (Option A)) → pool_get pool k ≡ None → pool ≡ pool_changed k f pool
changed_none zero f pool e = refl
changed_none (suc i) f pool e = none_set pool i e ∙ ap (λ o. slice_set pool i (option_map f o)) (sym e)
