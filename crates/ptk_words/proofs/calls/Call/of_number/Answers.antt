use Rattle.std.proofs.Common.{rules}
use Rattle.ptk_words.proofs.calls.Call.of_number.Goals as goal

pub returns-in_default : goal.returns-in_default
returns-in_default c = search rules
