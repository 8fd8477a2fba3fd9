use Rattle.std.proofs.Common.{◌≡◌, get_or, eqb-true, arith, rules, sym, subst, ◌∙◌}
use Rattle.std.proofs.lemmas.Bool.{eqb-false}
use Rattle.std.proofs.lemmas.List.{get_or_default}
use Rattle.std.proofs.lemmas.List.Sorted.{IsPartitionPoint-from_clause}
use Rattle.ptk_words_model.specs.declared.window.Window.{Window}
use Rattle.ptk_window.specs.Order.{is_past}
use Rattle.ptk_window.proofs.Searches.{past_first, none_after, found_first}
use Rattle.ptk_window.proofs.lookup.place_after.Goals as goal
use Rattle.ptk_window.proofs.lookup.place_after.Goals.{else-past-by_partition-via-then-past-by_partition+else-eq, else-past-by_partition-via-else-past-by_partition}

pub returns-then-eq : goal.returns-then-eq
returns-then-eq c =
    let parted = past_first c.args.partition c.args.place _ c.requires in
    let point = IsPartitionPoint-from_clause (is_past c.args.partition c.args.place) _ _ c.partition_point-past.ensures.partitioned parted (λ a r q k. search rules) in
    let w = c.index-by_partition-past.result in
    let ws = c.args.by_partition.now in
    let i = c.partition_point-past.result in
    let same_at : (get_or ws i w).partition ≡ c.args.partition = eqb-true (get_or ws i w).partition c.args.partition (sym c.eq.ensures ∙ c.if-eq.true) in
    let same = subst (λ (v : Window). v.partition ≡ c.args.partition) (sym c.index-by_partition-past.is) same_at in
    found_first c.args.partition c.args.place ws i w c.if-past-by_partition.true point (sym c.index-by_partition-past.is) same

pub returns-else-past-by_partition : goal.returns-else-past-by_partition
returns-else-past-by_partition c =
    let parted = past_first c.args.partition c.args.place _ c.requires in
    let point = IsPartitionPoint-from_clause (is_past c.args.partition c.args.place) _ _ c.partition_point-past.ensures.partitioned parted (λ a r q k. search rules) in
    none_after c.args.partition c.args.place _ _ c.requires c.partition_point-past.ensures.bound point
    (elim c.else-past-by_partition.branch [
      | else-past-by_partition-via-then-past-by_partition+else-eq b ↦ λ d below of_p.
          let i = c.partition_point-past.result in
          let w = b.index-by_partition-past.result in
          let at_w = get_or_default c.args.by_partition.now i d w below in
          eqb-false (get_or c.args.by_partition.now i w).partition c.args.partition (sym b.eq.ensures ∙ b.if-eq.false) (subst (λ (v : Window). v.partition ≡ c.args.partition) at_w of_p)
      | else-past-by_partition-via-else-past-by_partition b ↦ λ d below of_p. omega (arith, b.if-past-by_partition.false, below)
    ])
