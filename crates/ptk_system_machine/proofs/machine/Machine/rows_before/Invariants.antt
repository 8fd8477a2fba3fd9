use Rattle.std.proofs.Common.{◌≡◌, ◌+◌, ◌-◌, ◌≤◌, ◌<◌, true, false}
use Rattle.std.specs.Prelude.{if◌then◌else◌}
use Rattle.ptk_words_model.specs.Windows.{own_ticks}
use Rattle.ptk_kernel.specs.Kept.{limits_at, part_at}
use Rattle.ptk_kernel.specs.Rows.{IsCallNext, IsStill}
use Rattle.ptk_system_machine.specs.Steady.{AreSteady, IsStillBehindCall, states_from}
use Rattle.ptk_system_machine.specs.Turns.{IsAt, IsComing, IsPlainAt}
use Rattle.ptk_system_machine.specs.Whole.{account_at, gone_on, state_at}
use Rattle.ptk_system_machine.proofs.machine.Machine.rows_before.Given as goal

abbrev pub invariant-loop-is_going : goal.invariant-loop-is_going
invariant-loop-is_going l = record {
  from : l.fn.turn.start ≤ l.now.start;
  coming : IsComing (own_ticks l.plan l.p) l.to (account_at l.p l.self).account.next l.now;
  gone : l.self ≡ gone_on (own_ticks l.plan l.p) l.p l.fn.turn.start (l.now.start - l.fn.turn.start) l.fn.self;
  steady : AreSteady (part_at l.p l.fn.self.kept) (states_from (own_ticks l.plan l.p) (limits_at l.p l.fn.self.kept) l.fn.turn.start (state_at l.p l.fn.self)) l.fn.turn.start l.now.start;
  first : l.until ≤ l.fn.turn.start → l.is_going ≡ true → (l.now ≡ l.fn.turn) × (l.self ≡ l.fn.self);
  last : l.until ≤ l.fn.turn.start → IsStillBehindCall (states_from (own_ticks l.plan l.p) (limits_at l.p l.fn.self.kept) l.fn.turn.start (state_at l.p l.fn.self)) l.fn.turn.start l.now.start;
  plain : l.is_going ≡ false → IsPlainAt (limits_at l.p l.fn.self.kept) l.fn.turn.start (part_at l.p l.fn.self.kept) → l.fn.turn.start < l.now.start;
  before : l.is_going ≡ true → l.now.start < l.quiet.stop;
  still : IsStill l.p l.now.start l.quiet l.self.kept;
  walk : l.now.start < l.to → IsAt l.plan l.p l.now.end l.walk;
  call : l.is_call ≡ true → IsCallNext l.quiet.thread (part_at l.p l.self.kept);
}

abbrev pub decreases-loop-is_going : goal.decreases-loop-is_going
decreases-loop-is_going l = if l.is_going then l.quiet.stop - l.now.start + 1 else 0
