use Rattle.std.proofs.Common.{sym}
use Rattle.ptk_gate_moves.specs.Held.{limits_here}
use Rattle.ptk_gate_threads.proofs.Handlers.{none_well}
use Rattle.ptk_gate_threads.proofs.unwinding.unwind_further.Goals as goal

pub call_destructor_or_end-requires-clause-well : goal.call_destructor_or_end-requires-clause-well
call_destructor_or_end-requires-clause-well c =
    rw c.next_unwind.ensures.moved (none_well (limits_here c.args.pools.now) c.args.t c.args.pools.now.here (sym c.in-None.ensures.told) c.requires.well)
