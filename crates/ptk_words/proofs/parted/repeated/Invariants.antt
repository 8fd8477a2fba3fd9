use Rattle.std.proofs.Common.{◌≡◌}
use Rattle.ptk_words.specs.Parts.{filled}
use Rattle.ptk_words.proofs.parted.repeated.Given as goal

abbrev pub invariant-loop-i : goal.invariant-loop-i
invariant-loop-i g l = l.items.items ≡ filled l.item l.i
