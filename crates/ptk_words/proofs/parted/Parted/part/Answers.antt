use Rattle.std.proofs.Common.{◌∙◌}
use Rattle.ptk_words.proofs.Cuts.{in_extents, part_lies, part-is, placed}
use Rattle.ptk_words.proofs.parted.Parted.part.Goals as goal

pub at-extent-requires : goal.at-extent-requires
at-extent-requires g c = in_extents _ _ _ _ c.self.view_is c.requires

pub within-requires-clause-ordered : goal.within-requires-clause-ordered
within-requires-clause-ordered g c =
    let at = part_lies _ _ _ _ c.self.view_is c.self.invariant.1 c.requires in
    let place = placed _ c.args.p _ c.at-extent.ensures c.self.invariant.0 in
    rw (place.0, place.1) at.ordered

pub within-requires-clause-in_bounds : goal.within-requires-clause-in_bounds
within-requires-clause-in_bounds g c =
    let at = part_lies _ _ _ _ c.self.view_is c.self.invariant.1 c.requires in
    let place = placed _ c.args.p _ c.at-extent.ensures c.self.invariant.0 in
    rw (place.1, c.deref.ensures.value) at.within

pub returns : goal.returns
returns g c =
    let place = placed _ c.args.p _ c.at-extent.ensures c.self.invariant.0 in
    c.within.ensures ∙ rw (place.0, place.1, c.deref.ensures.value) (part-is _ _ _ _ c.self.view_is c.requires)
