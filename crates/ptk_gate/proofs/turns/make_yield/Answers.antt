use Rattle.ptk_gate_pools.specs.Held.{limits_here}
use Rattle.ptk_gate_threads.proofs.Ready.{running_in_use}
use Rattle.ptk_gate.proofs.Yields.{yield_made}
use Rattle.ptk_gate.proofs.turns.make_yield.Goals as goal

pub update-requires-clause-in_use : goal.update-requires-clause-in_use
update-requires-clause-in_use c = running_in_use (limits_here c.args.pools.now) c.args.pools.now.here c.args.t c.requires.well c.requires.running

pub returns : goal.returns
returns c i cost same at =
    yield_made c.args.tick c.args.t c.args.pc cost i c.args.pools.now c.update.new.self c.end_turn_with.new.self c.note_last.new.self
    c.update.ensures c.end_turn_with.ensures c.note_last.ensures c.requires.well c.requires.running same at
