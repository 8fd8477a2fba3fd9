use Rattle.std.proofs.Common.{◌≡◌, ℕ, ◌*◌, ◌<◌, List, get_or, length, sym, ap, subst, ◌∙◌, arith}
use Rattle.std.proofs.lemmas.List.{length-map}
use Rattle.ptk_words_model.specs.Windows.{WindowPlan}
use Rattle.ptk_window.specs.declared.table.Table.{Table}
use Rattle.ptk_window.specs.Stages.{ArePlanned, plan_of, stage_of}
use Rattle.ptk_window.proofs.StageLaws.{begin_is, number_is}
use Rattle.ptk_window.proofs.plan.WindowPlan.begin_of.Goals as goal

pub returns-clause-begin : goal.returns-clause-begin
returns-clause-begin c =
    let frame = c.self.inside.frame in
    let tables = c.as_slice-tables.result.now in
    let are : ArePlanned frame tables = subst (λ (ts : List Table). ArePlanned frame ts) (sym c.as_slice-tables.ensures.value) c.self.invariant in
    let seen : plan_of frame tables ≡ c.args.self.now = ap (plan_of frame) c.as_slice-tables.ensures.value ∙ c.self.view_is in
    let count = ap (λ (plan : WindowPlan). length plan.stages) seen in
    let below : c.args.stage < length tables = omega (arith, c.requires, count, length-map tables stage_of) in
    λ d. c.new.ensures
    ∙ (c.begin.ensures.begin
    ∙ (begin_is frame tables are c.args.stage c.index-tables-stage.result below c.index-tables-stage.is
    ∙ (ap (λ (n : ℕ). n * frame) (sym (number_is tables c.args.stage d below))
    ∙ ap (λ (plan : WindowPlan). (get_or plan.stages c.args.stage d).from * plan.frame) seen)))
