-- The thread that is chosen next is in use.
use Rattle.std.proofs.Common.{◌≡◌, ℕ, sym, ◌∙◌}
use Rattle.std.specs.Prelude.{Option, Some, IsSome}
use Rattle.ptk_words.proofs.Lists.{first_in}
use Rattle.ptk_words_model.specs.State.{Part}
use Rattle.ptk_words_model.specs.Priority.{thread_at, effective_priority}
use Rattle.ptk_words_model.specs.Schedule.{first_ready}
use Rattle.ptk_words_invariant.specs.Well.{IsWell}
use Rattle.ptk_gate_moves.specs.Held.{Held, limits_here}
use Rattle.ptk_gate_moves.proofs.Ready.{lined_in_use}

pub chosen_in_use : (t : ℕ) (next : Option ℕ) (pools : Held) → IsWell (limits_here pools) pools.here → next ≡ first_ready pools.here.locks → next ≡ Some t → IsSome (thread_at pools.here.locks t)
chosen_in_use t next pools well chosen e =
    let s : Part = pools.here in
    lined_in_use (limits_here pools) s t well (first_in (effective_priority s.locks) t s.line (sym chosen ∙ e))
