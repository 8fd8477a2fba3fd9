use Rattle.std.proofs.Common.{◌≡◌, ◌≤◌, ◌*◌, ◌++◌, drop}
use Rattle.ptk_clock.specs.ByThread.{laid_from, end_from}
use Rattle.ptk_clock.proofs.threads.laid.Given as goal

-- the slots so far and those to come are all
abbrev pub invariant-loop-count : goal.invariant-loop-count
invariant-loop-count l = record {
  told : l.partitions.items ++ laid_from l.first (drop l.count-index l.counts) ≡ laid_from 0 l.counts;
  end : end_from l.first (drop l.count-index l.counts) ≡ end_from 0 l.counts;
  small : l.first ≤ l.count-index * 32;
}
