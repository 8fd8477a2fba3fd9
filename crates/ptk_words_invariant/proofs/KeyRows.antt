-- The calls on keys leave the state whole.
use Rattle.std.proofs.Common.{◌≡◌, ℕ, zero, suc, List, [], ◌∷◌, map, refl, ◌∙◌}
use Rattle.std.specs.Prelude.{Option, Some, None, option_map}
use Rattle.std.proofs.lemmas.List.{length-map}
use Rattle.std.proofs.lemmas.Option.{slice_get-map}
use Rattle.ptk_words.specs.Pools.{numbered, pool_set, least_free}
use Rattle.ptk_words.specs.declared.faults.Errno.TheVariants.{EAGAIN, EINVAL}
use Rattle.ptk_words.specs.declared.sections.Limits.{Limits}
use Rattle.ptk_words.proofs.Pools.{length-pool_set}
use Rattle.ptk_words_model.specs.State.{Part, with_keys}
use Rattle.ptk_words_model.specs.Keys.{is_key, with_key, with_values, specific}
use Rattle.ptk_words_model.specs.KeyCalls.{key_create, key_delete, setspecific, getspecific}
use Rattle.ptk_words_invariant.specs.Well.{AreValues, IsWell}
use Rattle.ptk_words_invariant.proofs.Unwindings.{values_map, well_keys, well_values}
use Rattle.ptk_words_invariant.proofs.Steps.{well_success, well_unless, well_given, Keeps}

-- ---- a key made or gone

pub numbered-map : {A B : Type 0} (f : A → B) (xs : List A) (k : ℕ) → numbered (map f xs) k ≡ option_map f (numbered xs k)
numbered-map f xs zero = refl
numbered-map f xs (suc i) = slice_get-map f xs i

-- each thread has as many values still
values_cleared : (n k : ℕ) (rows : List (List ℕ)) → ((t : ℕ) → AreValues n (numbered rows t)) → (t : ℕ) → AreValues n (numbered (map (λ values. pool_set values k 0) rows) t)
values_cleared n k rows each t =
    rw (numbered-map (λ (values : List ℕ). pool_set values k 0) rows t)
    (values_map n (λ values. pool_set values k 0) (numbered rows t) (each t) (λ values same. length-pool_set values k 0 ∙ same))

-- a key with this destructor, or free, and 0 in every thread
pub well_key : (limits : Limits) (k : ℕ) (destructor : Option ℕ) (s : Part) → IsWell limits s → IsWell limits (with_keys (with_key k destructor) s)
well_key limits k destructor s well =
    well_keys limits (with_key k destructor s.keys) s (length-pool_set s.keys.destructors k destructor ∙ well.endings.destructors)
    (length-map s.keys.values (λ values. pool_set values k 0) ∙ well.endings.rows) (values_cleared limits.keys k s.keys.values well.endings.values) well.endings.rounds well

-- ---- calls 50 to 53

pub well_key_create : Keeps key_create
well_key_create i s runs well =
    well_given i.limits (least_free s.keys.destructors) EAGAIN _ i s well
    (λ k free. well_success i.limits (k ∷ []) i (with_keys (with_key k (Some i.a0)) s) (well_key i.limits k (Some i.a0) s well))

pub well_key_delete : Keeps key_delete
well_key_delete i s runs well =
    well_unless i.limits EINVAL (is_key s.keys i.a0) _ i s well
    (λ known. well_success i.limits [] i (with_keys (with_key i.a0 None) s) (well_key i.limits i.a0 None s well))

pub well_setspecific : Keeps setspecific
well_setspecific i s runs well =
    well_unless i.limits EINVAL (is_key s.keys i.a0) _ i s well
    (λ known. well_success i.limits [] i (with_keys (with_values i.caller (λ values. pool_set values i.a0 i.a1)) s)
    (well_values i.limits i.caller (λ values. pool_set values i.a0 i.a1) s (λ values same. length-pool_set values i.a0 i.a1 ∙ same) well))

pub well_getspecific : Keeps getspecific
well_getspecific i s runs well = well_success i.limits (specific s.keys i.caller i.a0 ∷ []) i s well
