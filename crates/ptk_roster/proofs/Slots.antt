-- A slot's mutex by its state, and a place by its number.
use Rattle.std.proofs.Common.{◌≡◌, ℕ, List, refl, add-one}
use Rattle.std.specs.Prelude.{Option, Some, None, option_map, is_none}
use Rattle.std.proofs.lemmas.List.{set_past}
use Rattle.ptk_words.proofs.Pools.{pool_set_below}
use Rattle.ptk_threads.proofs.Slots.{pool_get_below, changed_at, changed_past}
use Rattle.ptk_roster.specs.declared.slot.MutexState.{MutexState}
use Rattle.ptk_roster.specs.Slots.{mutex_with, state_of-bare}

-- ---- a slot

pub is_none-mutex : (waiters : List ℕ) (state : Option MutexState) → is_none (option_map (mutex_with waiters) state) ≡ is_none state
is_none-mutex waiters None = refl
is_none-mutex waiters (Some state) = refl

pub ruleset slots = (state_of-bare, is_none-mutex)

-- ---- a number

pub ruleset numbers = (pool_get_below, pool_set_below, add-one, set_past)

pub ruleset changes = (changed_at, changed_past)
