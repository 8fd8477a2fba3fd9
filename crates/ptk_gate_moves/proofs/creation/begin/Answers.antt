use Rattle.std.proofs.Common.{rules}
use Rattle.ptk_gate_pools.specs.Held.{limits_here}
use Rattle.ptk_gate_pools.proofs.NoWaiters.{free_apart}
use Rattle.ptk_gate_moves.proofs.Creations.{free_fresh}
use Rattle.ptk_gate_moves.proofs.creation.begin.Goals as goal

pub append-requires-clause-fresh : goal.append-requires-clause-fresh
append-requires-clause-fresh c =
    rw (c.take_number.ensures, c.clear_cancellation.ensures, c.clear_keys.ensures) (free_fresh (limits_here c.args.pools.now) c.args.t c.args.pools.now.here c.requires.well c.requires.free)

pub append-requires-clause-free : goal.append-requires-clause-free
append-requires-clause-free c =
    rw (c.take_number.ensures, c.clear_cancellation.ensures, c.clear_keys.ensures) (free_apart (limits_here c.args.pools.now) c.args.t c.args.pools.now.here c.requires.well c.requires.free)

pub returns : goal.returns
returns c = search rules
