use Rattle.std.proofs.Common.{◌≡◌, ◌-◌, ◌<◌, ◌≤◌}
use Rattle.ptk_words_model.specs.Windows.{own_ticks}
use Rattle.ptk_system_machine.specs.Turns.{IsAt, IsComing}
use Rattle.ptk_system_machine.specs.Whole.{account_at, gone_on}
use Rattle.ptk_system_machine.proofs.machine.Machine.run_partition.Given as goal

abbrev pub invariant-loop-to : goal.invariant-loop-to
invariant-loop-to l = record {
  from : l.fn.tick ≤ l.now.start;
  coming : IsComing (own_ticks l.plan l.p) l.to (account_at l.p l.self).account.next l.now;
  gone : l.self ≡ gone_on (own_ticks l.plan l.p) l.p l.fn.tick (l.now.start - l.fn.tick) l.fn.self;
  walk : l.now.start < l.to → IsAt l.plan l.p l.now.end l.walk;
}

abbrev pub decreases-loop-to : goal.decreases-loop-to
decreases-loop-to l = l.to - l.now.start
