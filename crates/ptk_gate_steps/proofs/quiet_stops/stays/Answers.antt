use Rattle.std.proofs.Common.{rules}
use Rattle.ptk_gate_steps.proofs.QuietStops.{first_in_use}
use Rattle.ptk_gate_steps.proofs.quiet_stops.stays.Goals as goal

pub effective_priority-requires-in-Some : goal.effective_priority-requires-in-Some
effective_priority-requires-in-Some c =
    record { in_use = first_in_use c.args.look.now.limits c.args.look.now.part c.first_ready-next.result c.in-Some.first c.requires.well c.first_ready-next.ensures c.in-Some.is }

pub returns-in-Some : goal.returns-in-Some
returns-in-Some c = search rules
