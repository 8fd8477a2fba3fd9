use Rattle.ptk_ready.proofs.Masks.{clear_bit}
use Rattle.ptk_ready.proofs.bits.without_bit.Goals as goal

pub returns : goal.returns
returns c = clear_bit c.args.bits c.args.i c.requires
