use Rattle.ptk_roster.proofs.priorities.+raise_chain.Given as goal

abbrev pub decreases-raise_chain : goal.decreases-raise_chain
decreases-raise_chain l = l.fuel
