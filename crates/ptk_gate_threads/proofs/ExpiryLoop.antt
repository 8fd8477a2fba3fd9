-- What a loop that takes the expiries one by one keeps.
use Rattle.std.proofs.Common.{arith, ◌≡◌, ℕ, ◌<◌, true, false, ◌∷◌, length, refl, sym, ◌∙◌, ap}
use Rattle.std.specs.Prelude.{Option, Some, None, is_some}
use Rattle.std.proofs.lemmas.Bool.{false≢true}
use Rattle.ptk_words_model.specs.State.{Part}
use Rattle.ptk_words_model.specs.Withdrawal.{Expiry, in_order, due, deadlines_of, after_expiries}
use Rattle.ptk_words_sync_invariant.specs.Expiries.{next_expiry, after_expiry, after_next_expiry}
use Rattle.ptk_words_sync_invariant.proofs.Expiries.{in_turn, one_at_a_time}
use Rattle.ptk_words_invariant.specs.Well.{IsWell}
use Rattle.ptk_words_invariant.proofs.Timeouts.{well_timeout}
use Rattle.ptk_gate_moves.specs.Held.{Held, limits_here}
use Rattle.ptk_gate_moves.specs.Expired.{after_one_expiry}

some_of : (o : Option Expiry) → is_some o ≡ true → (a : Expiry) × (o ≡ Some a)
some_of None e = absurd (false≢true e)
some_of (Some a) e = (a, refl)

none_of : (o : Option Expiry) → is_some o ≡ false → o ≡ None
none_of None e = refl
none_of (Some a) e = absurd (false≢true (sym e))

-- the next expiry of the partition's threads at the tick
abbrev next_expiry_in : ℕ → Part → Option Expiry
next_expiry_in tick s = next_expiry tick (deadlines_of s.locks)

-- so far some expiries have been taken from the part in hand, and the ones left lead to the same part
pub record AreExpiring (tick : ℕ) (initial now : Held) : Type 0 where
  pub rest : now ≡ record initial { here = now.here }
  pub same : after_expiries tick now.here ≡ after_expiries tick initial.here
  pub well : IsWell (limits_here initial) now.here

-- one more, and one fewer is due
pub expiring_more : (tick : ℕ) (initial now new : Held) → AreExpiring tick initial now → is_some (next_expiry tick (deadlines_of now.here.locks)) ≡ true
    → new ≡ record now { here = after_one_expiry (next_expiry tick (deadlines_of now.here.locks)) now.here }
    → AreExpiring tick initial new × (length (in_order (due tick new.here)) < length (in_order (due tick now.here)))
expiring_more tick initial now new a found e =
    let next = some_of (next_expiry_in tick now.here) found in
    let x : Expiry = next.0 in
    let is : next_expiry_in tick now.here ≡ Some x = next.1 in
    let v : Part = after_expiry x now.here in
    let new_is : new ≡ record now { here = v } = e ∙ ap (λ o. record now { here = after_one_expiry o now.here }) is in
    let step : after_expiries tick now.here ≡ after_expiries tick v = one_at_a_time tick now.here ∙ ap (λ o. after_next_expiry tick o now.here) is in
    let more : length (in_order (due tick now.here)) ≡ length (x ∷ in_order (due tick v)) = ap length (in_turn tick x now.here is).later in
    rw new_is (
      record { rest = ap (λ (pools : Held). record pools { here = v }) a.rest; same = sym step ∙ a.same; well = well_timeout (limits_here initial) x.thread now.here a.well },
      omega (arith, more),
    )

-- and at last all
pub expiring_end : (tick : ℕ) (initial now new : Held) → AreExpiring tick initial now → is_some (next_expiry tick (deadlines_of now.here.locks)) ≡ false
    → new ≡ record now { here = after_one_expiry (next_expiry tick (deadlines_of now.here.locks)) now.here } → new ≡ record initial { here = after_expiries tick initial.here }
expiring_end tick initial now new a none e =
    let is : next_expiry_in tick now.here ≡ None = none_of (next_expiry_in tick now.here) none in
    let end : after_expiries tick now.here ≡ now.here = one_at_a_time tick now.here ∙ ap (λ o. after_next_expiry tick o now.here) is in
    e ∙ ap (λ o. record now { here = after_one_expiry o now.here }) is ∙ a.rest ∙ ap (λ (s : Part). record initial { here = s }) (sym end ∙ a.same)
