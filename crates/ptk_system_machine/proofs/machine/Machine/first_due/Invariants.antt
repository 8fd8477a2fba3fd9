use Rattle.std.proofs.Common.{◌≡◌}
use Rattle.ptk_system_machine.specs.Turns.{ComesFirst}
use Rattle.ptk_system_machine.proofs.machine.Machine.first_due.Given as goal

abbrev pub invariant-loop-i : goal.invariant-loop-i
invariant-loop-i l = record {
  same : l.self ≡ l.fn.self;
  first : ComesFirst l.plan l.tick l.to l.i l.fn.self l.first;
}
