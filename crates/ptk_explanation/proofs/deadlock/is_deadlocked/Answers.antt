use Rattle.std.proofs.Common.{sym, refl}
use Rattle.ptk_system.specs.World.{state_of}
use Rattle.ptk_explanation.proofs.Waiting.{cycle_found, cycle_none}
use Rattle.ptk_explanation.proofs.deadlock.is_deadlocked.Goals as goal

pub returns-in-Some : goal.returns-in-Some
returns-in-Some c =
    cycle_found (state_of c.args.system.now c.args.p).part c.args.t c.in-Some.next c.thread_count-most.result c.thread_count-most.ensures.count (sym c.in-Some.ensures)
    c.leads.result c.leads.ensures

pub returns-in-None : goal.returns-in-None
returns-in-None c = cycle_none (state_of c.args.system.now c.args.p).part c.args.t (sym c.in-None.ensures) _ refl
