use Rattle.std.proofs.Common.{◌∙◌}
use Rattle.ptk_words.proofs.Cuts.{length-parts}
use Rattle.ptk_words.proofs.parted.Parted.parts.Goals as goal

pub returns : goal.returns
returns g c = c.count.ensures ∙ length-parts _ _ _ c.self.view_is
