use Rattle.std.proofs.Common.{rules}
use Rattle.ptk_gate.proofs.loading.fits.Goals as goal

pub returns : goal.returns
returns c = search rules
