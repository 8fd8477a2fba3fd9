use Rattle.std.proofs.Common.{rules}
use Rattle.ptk_rv32i.proofs.memory.place.Goals as goal

pub returns-clause-place : goal.returns-clause-place
returns-clause-place c = search rules

pub returns-clause-inside : goal.returns-clause-inside
returns-clause-inside c = search rules
