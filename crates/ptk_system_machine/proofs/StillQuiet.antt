-- How quiet a partition is at its next turn in a row.
use Rattle.std.proofs.Common.{◌≡◌, ℕ, ◌≤◌, sym, subst, arith}
use Rattle.ptk_words_laws.proofs.Sooner.{quiet_sooner}
use Rattle.ptk_kernel.specs.Kept.{Kept, limits_at, part_at}
use Rattle.ptk_kernel.specs.Rows.{IsStillTo}

-- what is quiet from a tick on is so from a later one on
pub still_later : (p tick later stop t : ℕ) (kept : Kept) → tick ≤ later → IsStillTo p tick stop t kept → IsStillTo p later stop t kept
still_later p tick later stop t kept le still =
    let quiet = still.1 in (
      still.0,
      record {
        active = quiet.active;
        none_comes = quiet.none_comes;
        none_expires = quiet.none_expires;
        chosen = quiet.chosen;
        running = quiet.running;
        in_use = quiet.in_use;
        lives = quiet.lives;
        goes_on = quiet.goes_on;
        within = λ robin. omega (arith, le, quiet.within robin);
        gate = quiet.gate;
      },
    )

-- what is quiet up to a tick is so up to an earlier one
pub still_within : (p tick stop sooner t u : ℕ) (kept : Kept) → sooner ≤ stop → u ≡ t → IsStillTo p tick stop t kept → IsStillTo p tick sooner u kept
still_within p tick stop sooner t u kept le same still =
    subst (λ (v : ℕ). IsStillTo p tick sooner v kept) (sym same) (still.0, quiet_sooner (limits_at p kept) tick stop sooner t still.0 (part_at p kept) still.1 le)

-- what goes on as quiet as it was up to any later tick does so up to its own stop
pub still_beyond : (p tick later stop sooner t u : ℕ) (old new : Kept) → sooner ≤ stop → u ≡ t
    → ((k : ℕ) → sooner ≤ k → IsStillTo p tick k u old → IsStillTo p later k u new) → IsStillTo p tick stop t old → IsStillTo p later stop t new
still_beyond p tick later stop sooner t u old new le same on still =
    subst (λ (v : ℕ). IsStillTo p later stop v new) same (on stop le (subst (λ (v : ℕ). IsStillTo p tick stop v old) (sym same) still))
