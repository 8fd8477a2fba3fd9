use Rattle.std.proofs.Common.{rules}
use Rattle.ptk_trace.proofs.trace.Trace.new.Goals as goal

pub returns : goal.returns
returns c = search rules
