use Rattle.std.proofs.Common.{◌≡◌, [], map, take, replicate, length}
use Rattle.ptk_cancel.proofs.table.cleanups_of.Given as goal

abbrev pub invariant-loop-l : goal.invariant-loop-l
invariant-loop-l m = record {
  made : m.cleanups ≡ map (λ l. replicate l.threads []) (take m.l-index m.limits);
  parts : length m.cleanups ≡ m.l-index;
}
