use Rattle.ptk_gate_pools.specs.Held.{limits_here}
use Rattle.ptk_gate_threads.proofs.Ready.{running_in_use}
use Rattle.ptk_gate.proofs.calls.answer.Goals as goal

pub used_thread-thread-requires : goal.used_thread-thread-requires
used_thread-thread-requires c = record { in_use = running_in_use (limits_here c.args.pools.now) c.args.pools.now.here c.args.caller c.requires.well c.requires.running }
