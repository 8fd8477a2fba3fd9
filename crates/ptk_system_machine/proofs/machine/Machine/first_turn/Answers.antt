use Rattle.ptk_words_model.specs.Windows.{own_ticks}
use Rattle.ptk_kernel.specs.Kept.{limits_at}
use Rattle.ptk_system_machine.specs.Whole.{state_at}
use Rattle.std.proofs.Common.{refl}
use Rattle.ptk_system_machine.proofs.Coming.{due_still, first_due, first_none, never_still}
use Rattle.ptk_system_machine.proofs.machine.Machine.first_turn.Goals as goal

pub returns-in-Some-clause-first : goal.returns-in-Some-clause-first
returns-in-Some-clause-first c =
    let turn = c.in-Some.ensures.turn in
    first_due (own_ticks c.args.plan.now c.args.p) (limits_at c.args.p c.args.self.now.kept) c.args.tick c.args.to c.in-Some.turn (state_at c.args.p c.args.self.now) turn.0 turn.1 turn.2 turn.3

pub returns-in-None-clause-first : goal.returns-in-None-clause-first
returns-in-None-clause-first c =
    first_none (own_ticks c.args.plan.now c.args.p) (limits_at c.args.p c.args.self.now.kept) c.args.tick c.args.to _ (state_at c.args.p c.args.self.now) c.requires.order refl c.in-None.ensures.turn

pub returns-in-Some-clause-still : goal.returns-in-Some-clause-still
returns-in-Some-clause-still c =
    due_still (own_ticks c.args.plan.now c.args.p) (limits_at c.args.p c.args.self.now.kept) c.args.tick c.in-Some.turn.start (state_at c.args.p c.args.self.now) c.in-Some.ensures.turn.2

pub returns-in-None-clause-still : goal.returns-in-None-clause-still
returns-in-None-clause-still c =
    never_still (own_ticks c.args.plan.now c.args.p) (limits_at c.args.p c.args.self.now.kept) c.args.tick c.args.to (state_at c.args.p c.args.self.now) c.in-None.ensures.turn
