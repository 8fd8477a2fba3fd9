use Rattle.std.proofs.Common.{ℕ, ◌-◌, ◌<◌, ◌≤◌}
use Rattle.ptk_impact.specs.Agreement.{Agree}
use Rattle.ptk_impact.proofs.search.difference_from.Given as goal

abbrev pub invariant-loop-partition : goal.invariant-loop-partition
invariant-loop-partition l = record {
  from : l.fn.begin ≤ l.tick;
  agree : (k : ℕ) → l.fn.begin ≤ k → k < l.tick → Agree l.plan l.partition l.other_plan l.other_partition k;
}

abbrev pub decreases-loop-partition : goal.decreases-loop-partition
decreases-loop-partition l = l.end - l.tick
