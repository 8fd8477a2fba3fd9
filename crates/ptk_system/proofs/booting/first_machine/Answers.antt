use Rattle.std.proofs.Common.{◌≡◌, ℕ, ◌<◌, List, length, subst, ap, ◌∙◌}
use Rattle.ptk_words.specs.declared.sections.Limits.{Limits}
use Rattle.ptk_words_model.specs.Windows.{WindowPlan}
use Rattle.ptk_system_machine.specs.Whole.{account_at, first_account_of}
use Rattle.ptk_system.proofs.Loading.{machine_starts}
use Rattle.ptk_system.proofs.booting.first_machine.Goals as goal

pub returns-clause-made : goal.returns-clause-made
returns-clause-made c =
    machine_starts c.args.config.now c.args.files.now c.in_ok-limits.limits.items c.in_ok-tables.tables c.in_ok-machine.machine c.plan.ensures.whole c.in_ok-limits.ensures c.in_ok-tables.ensures.loaded c.in_ok-machine.ensures.tables
    (c.in_ok-machine.ensures.count ∙ ap length c.deref-2.ensures.value)
    (subst (λ (w : WindowPlan). (p : ℕ) → p < length c.in_ok-limits.limits.items → account_at p c.in_ok-machine.machine ≡ first_account_of w c.in_ok-tables.tables p) c.plan.ensures.value
    (subst (λ (ls : List Limits). (p : ℕ) → p < length ls → account_at p c.in_ok-machine.machine ≡ first_account_of c.plan.result.now c.in_ok-tables.tables p) c.deref-2.ensures.value c.in_ok-machine.ensures.accounts))
