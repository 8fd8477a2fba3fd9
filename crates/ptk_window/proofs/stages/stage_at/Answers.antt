use Rattle.std.proofs.Common.{◌/◌, leb, rules}
use Rattle.std.proofs.lemmas.List.Sorted.{IsPartitionPoint-from_clause, IsPartitionedBy-leb}
use Rattle.ptk_window.specs.declared.table.Table.{Table}
use Rattle.ptk_window.proofs.StageLaws.{froms_rise, begun_some, point_has}
use Rattle.ptk_window.proofs.stages.stage_at.Goals as goal

pub overflow_sub-result : goal.overflow_sub-result
overflow_sub-result c =
    let number = c.args.tick / c.args.frame in
    let parted = IsPartitionedBy-leb (λ (t : Table). t.from) _ number (froms_rise c.args.frame c.args.tables.now c.requires) in
    let point = IsPartitionPoint-from_clause (λ (t : Table). leb t.from number) _ _ c.partition_point.ensures.partitioned parted (λ a r q k. search rules) in
    begun_some c.args.frame c.args.tables.now c.requires number c.partition_point.result point

pub returns : goal.returns
returns c =
    let number = c.args.tick / c.args.frame in
    let parted = IsPartitionedBy-leb (λ (t : Table). t.from) _ number (froms_rise c.args.frame c.args.tables.now c.requires) in
    let point = IsPartitionPoint-from_clause (λ (t : Table). leb t.from number) _ _ c.partition_point.ensures.partitioned parted (λ a r q k. search rules) in
    point_has c.args.frame c.args.tables.now c.requires c.args.tick c.partition_point.result c.partition_point.ensures.bound point
