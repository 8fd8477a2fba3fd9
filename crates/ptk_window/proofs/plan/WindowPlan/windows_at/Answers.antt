use Rattle.std.proofs.Common.{◌≡◌, List, sym, ap, subst, ◌∙◌}
use Rattle.ptk_words_model.specs.Windows.{WindowPlan, windows_at}
use Rattle.ptk_window.specs.declared.table.Table.{Table}
use Rattle.ptk_window.specs.Stages.{ArePlanned, plan_of}
use Rattle.ptk_window.proofs.StageLaws.{windows_there}
use Rattle.ptk_window.proofs.plan.WindowPlan.windows_at.Goals as goal

pub returns : goal.returns
returns c =
    let frame = c.self.inside.frame in
    let tables = c.as_slice-tables.result.now in
    let are : ArePlanned frame tables = subst (λ (ts : List Table). ArePlanned frame ts) (sym c.as_slice-tables.ensures.value) c.self.invariant in
    let seen : plan_of frame tables ≡ c.args.self.now = ap (plan_of frame) c.as_slice-tables.ensures.value ∙ c.self.view_is in
    let t = c.index-tables-stage_at.result in
    c.deref.ensures.value
    ∙ (ap (λ (u : Table). u.windows.items) (sym c.index-tables-stage_at.is)
    ∙ (sym (windows_there frame tables are c.stage_at.result c.args.tick t c.stage_at.ensures (sym c.index-tables-stage_at.is))
    ∙ ap (λ (plan : WindowPlan). windows_at plan c.args.tick) seen))
