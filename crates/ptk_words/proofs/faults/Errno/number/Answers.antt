use Rattle.std.proofs.Common.{rules}
use Rattle.ptk_words.proofs.faults.Errno.number.Goals as goal

pub returns-in-EAGAIN : goal.returns-in-EAGAIN
returns-in-EAGAIN c = search rules
