use Rattle.std.proofs.Common.{sym, ◌∙◌, ap, length, List, arith}
use Rattle.std.proofs.lemmas.List.{length-take-le}
use Rattle.ptk_words.specs.declared.extents.Extent.{Extent}
use Rattle.ptk_words.proofs.extents.Extents.count.Goals as goal

pub returns : goal.returns
returns c = sym (length-take-le c.self.inside.count c.self.inside.all (omega (arith, c.self.invariant.0, c.self.invariant.1))) ∙ ap (λ (es : List Extent). length es) c.self.view_is
