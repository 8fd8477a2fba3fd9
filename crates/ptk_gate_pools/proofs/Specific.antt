-- A new thread's values, as many as the section has keys.
use Rattle.std.proofs.Common.{◌≡◌, ℕ, List, [], length, refl, ◌∙◌, ap}
use Rattle.std.specs.Prelude.{Option, Some, None, option_map, unwrap_or}
use Rattle.std.proofs.lemmas.List.{set-get_or}
use Rattle.ptk_words.specs.Pools.{numbered, pool_set}
use Rattle.ptk_words_model.specs.State.{Keys, with_keys}
use Rattle.ptk_words_model.specs.Keys.{no_values, with_new_specific}
use Rattle.ptk_keys.specs.KeptKeys.{KeptKeys, keys_at, put_keys, with_cleared}
use Rattle.ptk_gate_pools.specs.declared.pools.Pools.TheInside.{Inside}
use Rattle.ptk_gate_pools.specs.Held.{Held, limits_here}
use Rattle.ptk_gate_pools.specs.Kept.{Kept, part_at, put_part, limits_at}
use Rattle.ptk_gate_pools.specs.Pooled.{kept_of}

-- the values of a thread are as many as the section's keys (own)
abbrev pub AreSized : ℕ → ℕ → Kept → Type 0
AreSized p t kept = (values : List ℕ) → numbered (part_at p kept).keys.values t ≡ Some values → length values ≡ (limits_at p kept).keys

cleared_row : (keys t : ℕ) (rows : List (List ℕ)) (o : Option (List ℕ)) → ((values : List ℕ) → o ≡ Some values → length values ≡ keys)
    → unwrap_or (option_map (λ values. pool_set rows t (no_values (length (unwrap_or o [])))) o) rows ≡ unwrap_or (option_map (λ values. pool_set rows t (no_values keys)) o) rows
cleared_row keys t rows None sized = refl
cleared_row keys t rows (Some values) sized = ap (λ n. pool_set rows t (no_values n)) (sized values refl)

-- a thread that has a value for each of so many keys is cleared
cleared_is : (keys t : ℕ) (s : Keys) → ((values : List ℕ) → numbered s.values t ≡ Some values → length values ≡ keys) → with_cleared t s ≡ with_new_specific keys t s
cleared_is keys t s sized = ap (λ rows. record (with_new_specific keys t s) { values = rows }) (cleared_row keys t s.values (numbered s.values t) sized)

-- the pools with these keys of one partition
keys_put : (p : ℕ) (keys : Keys) (a : Inside) (new : KeptKeys) → new ≡ put_keys p keys a.keys → kept_of (record a { keys = new }) ≡ put_part p (with_keys (λ _. keys) (part_at p (kept_of a))) (kept_of a)
keys_put p keys a new e = rw e (simp set-get_or)

-- a thread's keys are cleared in the pools
pub cleared_put : (p t : ℕ) (a : Inside) (new : KeptKeys) → new ≡ put_keys p (with_cleared t (keys_at p a.keys)) a.keys → AreSized p t (kept_of a)
    → kept_of (record a { keys = new }) ≡ put_part p (with_keys (with_new_specific (limits_at p (kept_of a)).keys t) (part_at p (kept_of a))) (kept_of a)
cleared_put p t a new e sized =
    keys_put p (with_cleared t (keys_at p a.keys)) a new e
    ∙ ap (λ (keys : Keys). put_part p (with_keys (λ _. keys) (part_at p (kept_of a))) (kept_of a)) (cleared_is (limits_at p (kept_of a)).keys t (keys_at p a.keys) sized)

-- the same of the part in hand (own)
abbrev pub AreSizedHere : ℕ → Held → Type 0
AreSizedHere t pools = (values : List ℕ) → numbered pools.here.keys.values t ≡ Some values → length values ≡ (limits_here pools).keys
