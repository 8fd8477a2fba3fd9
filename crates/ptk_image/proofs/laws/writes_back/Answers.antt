use Rattle.std.proofs.Common.{ℕ, arith}
use Rattle.ptk_image.proofs.Spelling.{write_back}
use Rattle.ptk_image.proofs.laws.writes_back.Goals as goal

pub returns : goal.returns
returns c = write_back c.args.bytes.now (λ (i : ℕ). omega (arith, c.type_inv.bytes i))
