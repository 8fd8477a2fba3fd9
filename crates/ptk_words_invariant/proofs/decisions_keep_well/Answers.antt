use Rattle.ptk_words_invariant.proofs.Decisions.{well_decision}
use Rattle.ptk_words_invariant.proofs.decisions_keep_well.Goals as goal

pub returns : goal.returns
returns c = λ limits part tick room active well. well_decision limits tick room part active well
