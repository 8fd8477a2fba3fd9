use Rattle.std.proofs.Common.{◌≡◌}
use Rattle.ptk_roster.proofs.Rosters.{with_pasted}
use Rattle.ptk_roster.proofs.roster.Roster.store_each.Given as goal

abbrev pub invariant-loop-i : goal.invariant-loop-i
invariant-loop-i l = record {
  table : l.self.table ≡ with_pasted l.p l.priorities l.i l.initial.self.table;
  lines : l.self.lines ≡ l.initial.self.lines;
  mutexes : l.self.mutexes ≡ l.initial.self.mutexes;
  conditions : l.self.conditions ≡ l.initial.self.conditions;
}
