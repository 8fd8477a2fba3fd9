use Rattle.std.proofs.Common.{rules}
use Rattle.ptk_config.proofs.section.Section.has_name.Goals as goal

pub returns : goal.returns
returns c = search rules
