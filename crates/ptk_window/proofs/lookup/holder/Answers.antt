use Rattle.std.proofs.Common.{◌≡◌, ◌+◌, ◌-◌, ◌≤◌, leb, get_or, arith, rules, sym, subst, ◌∙◌}
use Rattle.std.proofs.lemmas.List.{get_or_default}
use Rattle.std.proofs.lemmas.List.Sorted.{IsPartitionPoint-from_clause, IsPartitionedBy-leb}
use Rattle.ptk_words_model.specs.declared.window.Window.{Window}
use Rattle.ptk_window.proofs.Searches.{starts_rise, begun_at, none_holds}
use Rattle.ptk_window.proofs.lookup.holder.Goals as goal

pub returns-then-begun-eq0 : goal.returns-then-begun-eq0
returns-then-begun-eq0 c =
    let parted = IsPartitionedBy-leb (λ w. w.start) _ c.args.place (starts_rise _ c.requires) in
    let point = IsPartitionPoint-from_clause (λ w. leb w.start c.args.place) _ _ c.partition_point-begun.ensures.partitioned parted (λ a r q k. search rules) in
    none_holds c.args.place _ _ c.requires c.partition_point-begun.ensures.bound point (λ d some. absurd (omega arith))

pub returns-then-place-end : goal.returns-then-place-end
returns-then-place-end c =
    let parted = IsPartitionedBy-leb (λ w. w.start) _ c.args.place (starts_rise _ c.requires) in
    let point = IsPartitionPoint-from_clause (λ w. leb w.start c.args.place) _ _ c.partition_point-begun.ensures.partitioned parted (λ a r q k. search rules) in
    let w = c.index-by_start-begun.result in
    let i = c.partition_point-begun.result - 1 in
    let is : get_or c.args.by_start.now i w ≡ w = sym c.index-by_start-begun.is in
    ((i, omega (arith, c.partition_point-begun.ensures.bound), is), (subst (λ (v : Window). v.start ≤ c.args.place) is (begun_at c.args.place _ _ i w point (omega arith)), omega arith))

pub returns-else-place-end : goal.returns-else-place-end
returns-else-place-end c =
    let parted = IsPartitionedBy-leb (λ w. w.start) _ c.args.place (starts_rise _ c.requires) in
    let point = IsPartitionPoint-from_clause (λ w. leb w.start c.args.place) _ _ c.partition_point-begun.ensures.partitioned parted (λ a r q k. search rules) in
    let w = c.index-by_start-begun.result in
    let i = c.partition_point-begun.result - 1 in
    let is : get_or c.args.by_start.now i w ≡ w = sym c.index-by_start-begun.is in
    none_holds c.args.place _ _ c.requires c.partition_point-begun.ensures.bound point
    (λ d some.
    let is_d : get_or c.args.by_start.now i d ≡ w = get_or_default c.args.by_start.now i d w (omega (arith, c.partition_point-begun.ensures.bound)) ∙ is in
    subst (λ (v : Window). v.start + v.length ≤ c.args.place) (sym is_d) (omega arith))
