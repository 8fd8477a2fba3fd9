use Rattle.std.proofs.Common.{◌≡◌, List, IsPermutation, rules, sym, subst}
use Rattle.ptk_words_model.specs.declared.window.Window.{Window}
use Rattle.ptk_window.specs.Order.{IsOrdered}
use Rattle.ptk_window.proofs.Orders.{ordered}
use Rattle.ptk_window.proofs.table.Table.new.Goals as goal

pub invariant_of-result : goal.invariant_of-result
invariant_of-result c =
    let given = c.args.windows.now in
    let starts = c.in_ok-by_start.by_start.items in
    let groups = c.in_ok-by_partition.by_partition.items in
    let regrouped : IsPermutation starts groups = subst (λ (ws : List Window). IsPermutation ws groups) c.deref.ensures.value c.in_ok-by_partition.ensures.permutation in
    let is = ordered c.args.frame c.args.parts given starts groups c.requires.fine c.in_ok-by_start.ensures.permutation c.in_ok-by_start.ensures.order regrouped c.in_ok-by_partition.ensures.groups c.in_ok-by_partition.ensures.order in
    record { short = c.requires.frame; early = c.requires.from; grouped = is.grouped }

pub returns-clause-ordered : goal.returns-clause-ordered
returns-clause-ordered c =
    let given = c.args.windows.now in
    let starts = c.in_ok-by_start.by_start.items in
    let groups = c.in_ok-by_partition.by_partition.items in
    let copied : c.in_ok-to_vec.field-0.items ≡ given = search rules in
    let regrouped : IsPermutation starts groups = subst (λ (ws : List Window). IsPermutation ws groups) c.deref.ensures.value c.in_ok-by_partition.ensures.permutation in
    subst (λ (ws : List Window). IsOrdered c.args.frame ws starts groups) (sym copied)
    (ordered c.args.frame c.args.parts given starts groups c.requires.fine c.in_ok-by_start.ensures.permutation c.in_ok-by_start.ensures.order regrouped c.in_ok-by_partition.ensures.groups c.in_ok-by_partition.ensures.order)
