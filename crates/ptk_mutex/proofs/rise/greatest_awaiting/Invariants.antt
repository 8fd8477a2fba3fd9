use Rattle.std.proofs.Common.{◌≡◌, ◌≤◌}
use Rattle.ptk_words.specs.Parts.{part_of}
use Rattle.ptk_mutex.proofs.Takes.{greatest_of}
use Rattle.ptk_mutex.proofs.rise.greatest_awaiting.Given as goal

abbrev pub invariant-loop-k : goal.invariant-loop-k
invariant-loop-k l =
    record {
      value : l.most ≡ greatest_of l.m (part_of l.roster.table.threads l.p) (part_of l.roster.table.stored l.p) l.k;
      in_range : l.most ≤ 32;
    }
