use Rattle.std.proofs.Common.{rules}
use Rattle.ptk_roster.proofs.moves.own_trylock_move.Goals as goal

pub returns-in-Normal : goal.returns-in-Normal
returns-in-Normal c = search rules
