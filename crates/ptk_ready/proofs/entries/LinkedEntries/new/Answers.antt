use Rattle.std.proofs.Common.{arith}
use Rattle.std.proofs.lemmas.Int.{ints}
use Rattle.ptk_ready.proofs.Lists.{none_filed}
use Rattle.ptk_ready.proofs.entries.LinkedEntries.new.Goals as goal

pub returns : goal.returns
returns g c = λ lists stored none. none_filed g.row.LIMIT _ lists stored _ none (omega (arith, ints), omega (arith, ints), omega (arith, ints))
