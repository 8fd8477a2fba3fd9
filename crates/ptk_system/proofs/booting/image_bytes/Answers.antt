use Rattle.std.proofs.Common.{rules}
use Rattle.ptk_system.proofs.booting.image_bytes.Goals as goal

pub returns : goal.returns
returns c = search rules
