use Rattle.std.proofs.Common.{◌≡◌, ◌<◌, length, refl, sym, subst}
use Rattle.ptk_words_model.specs.State.{State}
use Rattle.ptk_words_model.specs.Decision.{ready_at}
use Rattle.ptk_kernel.specs.Kept.{limits_at, part_at, put_part}
use Rattle.ptk_system_machine.specs.Accounts.{IsBehind}
use Rattle.ptk_system_machine.specs.Whole.{Whole, state_at}
use Rattle.ptk_system_machine.proofs.Prepared.{prepared_behind, prepared_state}
use Rattle.ptk_system_machine.proofs.machine.Machine.prepare.Goals as goal

pub returns-clause-tables : goal.returns-clause-tables
returns-clause-tables c =
    subst (λ (w : Whole). c.prepare.new.tables ≡ put_part c.args.p (ready_at (limits_at c.args.p w.kept) c.args.tick (part_at c.args.p w.kept)) w.kept) c.self.view_is c.prepare.ensures.moved

pub returns-clause-behind : goal.returns-clause-behind
returns-clause-behind c =
    let lt : c.args.p < length c.self.inside.accounts.items = subst (λ (w : Whole). c.args.p < length w.accounts) (sym c.self.view_is) c.requires.partition in
    subst (λ (u : State). IsBehind c.args.tick u)
    (sym (prepared_state c.args.p c.args.tick (record { kept = c.self.inside.tables; accounts = c.self.inside.accounts.items }) (record { kept = c.prepare.new.tables; accounts = c.self.inside.accounts.items }) c.self.invariant lt c.prepare.ensures.moved refl))
    (prepared_behind (limits_at c.args.p c.prepare.new.tables) c.args.tick (state_at c.args.p (record { kept = c.self.inside.tables; accounts = c.self.inside.accounts.items }))
    (subst (λ (w : Whole). IsBehind c.args.tick (state_at c.args.p w)) (sym c.self.view_is) c.requires.behind))
