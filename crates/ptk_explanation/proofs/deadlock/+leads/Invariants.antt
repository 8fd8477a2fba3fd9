use Rattle.ptk_explanation.proofs.deadlock.+leads.Given as goal

abbrev pub decreases-leads : goal.decreases-leads
decreases-leads l = l.most
