use Rattle.std.proofs.Common.{◌≡◌, vec_len}
use Rattle.ptk_config_explain.proofs.images.outcomes_of.Given as goal

abbrev pub invariant-loop-section : goal.invariant-loop-section
invariant-loop-section l = vec_len l.outcomes ≡ l.section-index
