use Rattle.std.proofs.Common.{ap, ◌∙◌}
use Rattle.ptk_words.specs.Parts.{filled}
use Rattle.ptk_words.proofs.Cuts.{built}
use Rattle.ptk_words.proofs.parted.Parted.build.Goals as goal

pub invariant_of-result : goal.invariant_of-result
invariant_of-result g c = (
  c.extents_of-extents.ensures.in_turn,
  (built c.args.item c.args.lengths.now _ _ c.extents_of-extents.ensures.ends
      (c.in_ok-items.ensures ∙ ap (filled c.args.item) c.last_end.ensures)).0,
)

pub returns : goal.returns
returns g c = (built c.args.item c.args.lengths.now _ _ c.extents_of-extents.ensures.ends
    (c.in_ok-items.ensures ∙ ap (filled c.args.item) c.last_end.ensures)).1
