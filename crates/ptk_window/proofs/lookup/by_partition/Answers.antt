use Rattle.std.proofs.Common.{◌≡◌, rules, IsSortedByKey, nat_cmp, sym, subst, List}
use Rattle.std.proofs.lemmas.List.Sorted.{answers_always, ties_still_rise, IsNonDecreasingBy-from_sort_by_key}
use Rattle.ptk_words_model.specs.declared.window.Window.{Window}
use Rattle.ptk_window.proofs.lookup.by_partition.Goals as goal

pub returns-clause-groups : goal.returns-clause-groups
returns-clause-groups c = IsNonDecreasingBy-from_sort_by_key (λ w. w.partition) _ c.in_ok-sort_by_key.ensures.sorted (λ a r q k. search rules)

pub returns-clause-order : goal.returns-clause-order
returns-clause-order c =
    let same : c.in_ok-grouped.grouped.items ≡ c.args.by_start.now = search rules in
    let sorted : IsSortedByKey (λ (w : Window). w.start) nat_cmp c.in_ok-grouped.grouped.items = subst (λ (ws : List Window). IsSortedByKey (λ (w : Window). w.start) nat_cmp ws) (sym same) c.requires in
    ties_still_rise (λ w. w.start) (λ w. w.partition) _ _ sorted (c.sort_by_key.ensures.stable (λ w. w.partition) (answers_always _ _ _ (λ f a r g h. search rules)))
