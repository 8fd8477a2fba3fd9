use Rattle.std.proofs.Common.{rules}
use Rattle.ptk_ready.proofs.entries.bitmap_without.Goals as goal

pub returns : goal.returns
returns c = search rules
