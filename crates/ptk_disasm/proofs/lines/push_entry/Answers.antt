use Rattle.std.proofs.Common.{rules}
use Rattle.ptk_disasm.proofs.lines.push_entry.Goals as goal

pub returns-in_ok-push_str : goal.returns-in_ok-push_str
returns-in_ok-push_str c = search rules
