use Rattle.std.proofs.Common.{rules}
use Rattle.ptk_config.proofs.config.read_table.Goals as goal

pub returns-in-Some : goal.returns-in-Some
returns-in-Some c = search rules
