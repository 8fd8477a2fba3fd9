use Rattle.ptk_gate_pools.specs.Held.{limits_here}
use Rattle.ptk_gate_threads.proofs.Ready.{running_in_use}
use Rattle.ptk_gate.proofs.CallSteps.{called_well, past_well}
use Rattle.ptk_gate.proofs.turns.make_step.Goals as goal

pub update-requires-clause-in_use : goal.update-requires-clause-in_use
update-requires-clause-in_use c = running_in_use (limits_here c.args.pools.now) c.args.pools.now.here c.args.i.now.caller c.requires.well c.requires.running

pub reply_to-told-requires-clause-well : goal.reply_to-told-requires-clause-well
reply_to-told-requires-clause-well c = past_well c.args.pc c.args.i.now c.args.pools.now c.update.new.self c.update.ensures c.requires.running c.requires.well

pub finish-requires : goal.finish-requires
finish-requires c = record {
  well = called_well c.args.known c.args.pc c.args.i.now c.args.pools.now c.update.new.self c.reply_to-told.new.pools c.update.ensures c.reply_to-told.ensures.moved c.requires.limits c.requires.running c.requires.well;
}
