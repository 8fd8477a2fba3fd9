use Rattle.std.proofs.Common.{◌<◌, ◌-◌, ◌^◌, arith}
use Rattle.std.specs.Int.Count.{count_leading_zeros}
use Rattle.std.proofs.lemmas.Nat.{leading_top}
use Rattle.ptk_ready.proofs.Masks.{top_is}
use Rattle.ptk_ready.proofs.bits.greatest_bit.Goals as goal

pub returns-else-bits-eq0 : goal.returns-else-bits-eq0
returns-else-bits-eq0 c =
    let some : 0 < c.args.bits = omega (arith, c.if-bits-eq0.false) in
    let fits : c.args.bits < 2 ^ 32 = omega (arith, c.ranges.bits.fits) in
    let top = leading_top 32 c.args.bits some fits in
    top_is c.args.bits (31 - count_leading_zeros 32 c.args.bits) some fits (omega (arith, top.1))
