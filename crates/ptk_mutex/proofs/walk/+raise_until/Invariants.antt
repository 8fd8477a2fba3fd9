use Rattle.ptk_mutex.proofs.walk.+raise_until.Given as goal

abbrev pub decreases-raise_until : goal.decreases-raise_until
decreases-raise_until l = l.fuel
