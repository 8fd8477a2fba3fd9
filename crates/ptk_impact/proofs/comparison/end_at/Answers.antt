use Rattle.std.proofs.Common.{sym, ◌∙◌}
use Rattle.std.proofs.lemmas.Bool.{eqb-false}
use Rattle.ptk_impact.proofs.Turns.{no_end_here}
use Rattle.ptk_impact.proofs.comparison.end_at.Goals as goal

pub returns-else-eq : goal.returns-else-eq
returns-else-eq c =
    λ plan p from is next after.
    no_end_here plan p from c.args.tick c.args.turn is next after c.requires (eqb-false c.args.turn.start c.args.tick (sym c.eq.ensures ∙ c.if-eq.false))
