use Rattle.ptk_words_invariant.proofs.Runs.{sound_alone}
use Rattle.ptk_words_invariant.proofs.stays_well.Goals as goal

pub returns : goal.returns
returns c = λ ticks limits image input threads interval n. (sound_alone ticks limits image input n threads interval).well
