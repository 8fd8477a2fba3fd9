use Rattle.std.proofs.Common.{arith}
use Rattle.ptk_words.proofs.Lists.{same_below}
use Rattle.ptk_impact.proofs.lists.first_other.Goals as goal

pub returns : goal.returns
returns g c =
    same_below c.args.old.now c.args.new.now c.loop-place.place
    (omega (arith, c.loop-place-test.false, c.max-place-end.ensures)) (omega (arith, c.loop-place-test.false, c.max-place-end.ensures)) c.loop-place.invariant
