use Rattle.std.proofs.Common.{◌≡◌, take}
use Rattle.ptk_words.specs.Pools.{greatest}
use Rattle.ptk_threads.specs.Table.{stored_of}
use Rattle.ptk_ready.proofs.choice.greatest_of.Given as goal

abbrev pub invariant-loop-k : goal.invariant-loop-k
invariant-loop-k l = l.most ≡ greatest (stored_of l.stored) (take l.k-index l.numbers)
