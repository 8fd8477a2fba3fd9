use Rattle.std.proofs.Common.{rules}
use Rattle.ptk_rv32i_code.proofs.decoding.decode_system.Goals as goal

pub returns-in-1048691-clause-again : goal.returns-in-1048691-clause-again
returns-in-1048691-clause-again c = search rules
