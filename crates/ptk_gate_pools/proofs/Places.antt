-- The places of mutexes, which have no waiters.
use Rattle.std.proofs.Common.{◌≡◌, ℕ, List, map, refl, ◌∙◌, ap}
use Rattle.std.specs.Prelude.{Option, Some, None, is_some}
use Rattle.ptk_words.specs.Pools.{pool_get}
use Rattle.ptk_words_model.specs.State.{Mutex}
use Rattle.ptk_roster.specs.Slots.{bare}
use Rattle.ptk_roster.proofs.Bare.{pool_get-bare}

is_some-bare : (x : Option Mutex) → is_some (bare x) ≡ is_some x
is_some-bare None = refl
is_some-bare (Some m) = refl

-- a number is in use there where it is that of a mutex
pub some_bare : (pool : List (Option Mutex)) (m : ℕ) → is_some (pool_get (map bare pool) m) ≡ is_some (pool_get pool m)
some_bare pool m = ap is_some (pool_get-bare pool m) ∙ is_some-bare (pool_get pool m)
