-- The steps of the walk that stops early, and of its count.
use Rattle.std.proofs.Common.{◌≡◌, ℕ, zero, suc, ◌-◌, ◌<◌, List, get_or, max, refl, arith}
use Rattle.std.specs.Prelude.{Option, Some}
use Rattle.std.proofs.lemmas.Bool.{lt-leb}
use Rattle.ptk_words.specs.Pools.{pool_set}
use Rattle.ptk_threads.specs.Table.{stored_of}
use Rattle.ptk_roster.specs.Raised.{raised, risen}
use Rattle.ptk_mutex.specs.Visits.{reads}

-- a lower priority that is replaced is raised
raised-set : (priority u : ℕ) (stored new : List ℕ) → stored_of stored u < priority → new ≡ pool_set stored u priority → new ≡ raised priority u stored
raised-set priority zero stored new h e = e
raised-set priority (suc i) stored new h e =
    let m : max (get_or stored i 0) priority ≡ priority = omega (arith, h) in
    rw m e

pub risen_some : (next : ℕ → Option ℕ) (priority fuel u v : ℕ) (stored mid new : List ℕ) → 0 < fuel → stored_of stored u < priority → next u ≡ Some v → mid ≡ pool_set stored u priority → new ≡ risen next priority (fuel - 1) v mid
    → new ≡ risen next priority fuel u stored
risen_some next priority zero u v stored mid new lt h n f e = absurd (omega (arith, lt))
risen_some next priority (suc fuel) u v stored mid new lt h n f e =
    let same : suc fuel - 1 ≡ fuel = omega arith in
    let here : mid ≡ raised priority u stored = raised-set priority u stored mid h f in
    rw (lt-leb priority (stored_of stored u) h, n) (rw (same, here) at e)

pub reads_some : (next : ℕ → Option ℕ) (priority fuel u v : ℕ) (stored mid : List ℕ) → 0 < fuel → stored_of stored u < priority → next u ≡ Some v → mid ≡ pool_set stored u priority → reads next priority fuel u stored ≡ suc (reads next priority (fuel - 1) v mid)
reads_some next priority zero u v stored mid lt h n f = absurd (omega (arith, lt))
reads_some next priority (suc fuel) u v stored mid lt h n f =
    let same : suc fuel - 1 ≡ fuel = omega arith in
    let here : mid ≡ raised priority u stored = raised-set priority u stored mid h f in
    rw (lt-leb priority (stored_of stored u) h, n, same, here) refl
