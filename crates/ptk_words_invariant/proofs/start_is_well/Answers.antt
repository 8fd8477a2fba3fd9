use Rattle.ptk_words_invariant.proofs.Starts.{well_start}
use Rattle.ptk_words_invariant.proofs.start_is_well.Goals as goal

pub returns : goal.returns
returns c = λ limits image input threads interval. well_start limits image input threads interval
