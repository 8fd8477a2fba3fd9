use Rattle.std.proofs.Common.{rules}
use Rattle.ptk_threads.proofs.threads.Threads.append.Goals as goal

pub returns : goal.returns
returns c = search rules
