use Rattle.std.proofs.Common.{rules}
use Rattle.ptk_clock.proofs.ticks.to_tick.Goals as goal

pub returns-clause-value : goal.returns-clause-value
returns-clause-value c = search rules

pub returns-clause-least : goal.returns-clause-least
returns-clause-least c = search rules
