use Rattle.ptk_words_invariant.proofs.Calls.{well_call}
use Rattle.ptk_words_invariant.proofs.calls_keep_well.Goals as goal

pub returns : goal.returns
returns c = λ part number i runs well. well_call number i part runs well
