use Rattle.std.proofs.Common.{subst}
use Rattle.ptk_impact.specs.Search.{IsNextTurn}
use Rattle.ptk_impact.proofs.Turns.{none_agree, alone_differs, other_alone_differs}
use Rattle.ptk_impact.proofs.comparison.Comparison.new.Goals as goal

pub returns-in-Some-None : goal.returns-in-Some-None
returns-in-Some-None c =
    λ a b p q tick a_is b_is next other_next.
    alone_differs a p b q tick a_is b_is c.in-Some-None.turn (subst (IsNextTurn a p tick) c.in-Some-None.is-0 next) (subst (IsNextTurn b q tick) c.in-Some-None.is-1 other_next)

pub returns-in-None-Some : goal.returns-in-None-Some
returns-in-None-Some c =
    λ a b p q tick a_is b_is next other_next.
    other_alone_differs a p b q tick a_is b_is c.in-None-Some.other (subst (IsNextTurn b q tick) c.in-None-Some.is-1 other_next) (subst (IsNextTurn a p tick) c.in-None-Some.is-0 next)

pub returns-in-None-None : goal.returns-in-None-None
returns-in-None-None c =
    λ a b p q tick a_is b_is next other_next.
    none_agree a p b q tick a_is b_is (subst (IsNextTurn a p tick) c.in-None-None.is-0 next) (subst (IsNextTurn b q tick) c.in-None-None.is-1 other_next)
