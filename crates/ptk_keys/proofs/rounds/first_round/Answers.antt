use Rattle.std.proofs.Common.{rules}
use Rattle.ptk_keys.proofs.rounds.first_round.Goals as goal

pub returns-in-Unwinding : goal.returns-in-Unwinding
returns-in-Unwinding c = search rules
