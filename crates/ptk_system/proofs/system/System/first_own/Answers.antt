use Rattle.std.proofs.Common.{◌≡◌, None, ap, subst, ◌∙◌, arith}
use Rattle.ptk_words_model.specs.Windows.{WindowPlan, own_ticks}
use Rattle.ptk_words_model.proofs.OwnLaws.{end_none}
use Rattle.ptk_system.specs.World.{World}
use Rattle.ptk_system.proofs.Latest.{none_sooner}
use Rattle.ptk_system.proofs.system.System.first_own.Goals as goal

pub returns-in-Some-clause-others : goal.returns-in-Some-clause-others
returns-in-Some-clause-others c = λ k from below.
    subst (λ (w : WindowPlan). (own_ticks w c.args.p).end_at k ≡ None) (c.plan.ensures.value ∙ ap (λ (w : World). w.config.plan) c.self.view_is)
    (none_sooner c.plan.result.now c.args.p c.args.tick c.in-Some.own k c.in-Some.ensures.first from below)

pub returns-in_default-clause-others : goal.returns-in_default-clause-others
returns-in_default-clause-others c = λ k from below.
    subst (λ (w : WindowPlan). (own_ticks w c.args.p).end_at k ≡ None) (c.plan.ensures.value ∙ ap (λ (w : World). w.config.plan) c.self.view_is)
    (none_sooner c.plan.result.now c.args.p c.args.tick c.in-Some.own k c.in-Some.ensures.first from (omega (arith, below, c.if-ticks.false)))

pub returns-in_default-2-clause-others : goal.returns-in_default-2-clause-others
returns-in_default-2-clause-others c = λ k from below.
    subst (λ (w : WindowPlan). (own_ticks w c.args.p).end_at k ≡ None) (c.plan.ensures.value ∙ ap (λ (w : World). w.config.plan) c.self.view_is)
    (end_none c.plan.result.now c.args.p k (c.in_default.ensures.first k from))
