use Rattle.std.proofs.Common.{◌∷◌}
use Rattle.ptk_cancel.proofs.Numbered.{updated_where}
use Rattle.ptk_cancel.proofs.stacks.push_in.Goals as goal

pub returns-clause-moved : goal.returns-clause-moved
returns-clause-moved c =
    updated_where c.push.result c.place-place.result c.args.t (λ cleanups. c.args.cleanup ∷ cleanups) c.args.stacks.now c.index-stacks-place.result c.push.new.self
    c.place-place.ensures.value c.place-place.ensures.positive c.if-place-stacks.false c.index-stacks-place.is c.push.ensures.moved
