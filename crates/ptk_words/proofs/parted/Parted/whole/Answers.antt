use Rattle.std.proofs.Common.{sym, ◌∙◌, ap}
use Rattle.ptk_words.specs.Parts.{joined}
use Rattle.ptk_words.specs.Cuts.{ends_in}
use Rattle.ptk_words.proofs.Cuts.{joined-cut}
use Rattle.ptk_words.proofs.parted.Parted.whole.Goals as goal

pub returns : goal.returns
returns g c = c.as_slice.ensures.value ∙ sym (joined-cut 0 (ends_in c.self.inside.extents) c.self.inside.items.items c.self.invariant.1) ∙ ap joined c.self.view_is
