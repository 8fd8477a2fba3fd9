use Rattle.std.proofs.Common.{◌≤◌, sym, ◌∙◌, arith}
use Rattle.ptk_impact.proofs.Turns.{both_agree, turns_differ, starts_after, turns_alike, turns_apart}
use Rattle.ptk_impact.proofs.comparison.Comparison.of_turns.Goals as goal

pub returns-then-eq : goal.returns-then-eq
returns-then-eq c =
    λ a b p q tick a_is b_is next other_next.
    both_agree a p b q tick a_is b_is c.args.turn c.args.other next other_next (turns_alike c.args.turn c.args.other (sym c.eq.ensures ∙ c.if-eq.true))

pub returns : goal.returns
returns c =
    λ a b p q tick a_is b_is next other_next.
    let after : tick ≤ c.new-tick.result = omega (arith, starts_after a p tick c.args.turn a_is next, starts_after b q tick c.args.other b_is other_next) in
    turns_differ a p b q tick a_is b_is c.args.turn c.args.other _ next other_next (turns_apart c.args.turn c.args.other (sym c.eq.ensures ∙ c.if-eq.false)) (omega arith)
    (c.end_at.ensures a p tick a_is next after) (c.end_at-2.ensures b q tick b_is other_next after)
