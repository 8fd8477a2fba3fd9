use Rattle.ptk_clock.proofs.Places.{insert-position}
use Rattle.ptk_clock.proofs.plain.first_after.Goals as goal

pub returns-clause-place : goal.returns-clause-place
returns-clause-place c = rw (c.unwrap_or.ensures, c.first_behind.ensures) (insert-position c.args.new c.args.pairs.now)
