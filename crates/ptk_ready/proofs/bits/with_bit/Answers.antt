use Rattle.ptk_ready.proofs.Masks.{set_bit}
use Rattle.ptk_ready.proofs.bits.with_bit.Goals as goal

pub returns : goal.returns
returns c = set_bit c.args.bits c.args.i c.requires
