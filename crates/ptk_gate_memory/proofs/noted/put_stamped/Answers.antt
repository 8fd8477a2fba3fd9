use Rattle.std.proofs.Common.{arith}
use Rattle.ptk_gate_memory.proofs.Stamps.{none_put, one_more_put}
use Rattle.ptk_gate_memory.proofs.noted.put_stamped.Goals as goal

pub loop-i-init : goal.loop-i-init
loop-i-init c = none_put c.args.tick c.args.thread c.args.room.now c.args.notes.now

pub loop-i-preserved : goal.loop-i-preserved
loop-i-preserved c =
    one_more_put c.args.tick c.args.thread c.loop-i.i c.new.result c.loop-i.room c.args.notes.now c.entry_of.result _
    (omega (arith, c.loop-i-test.true, c.requires.room, c.loop-i.auto)) (omega (arith, c.loop-i-test.true)) (omega (arith, c.new.ensures, c.ticks.ensures)) c.entry_of.ensures c.loop-i.invariant
