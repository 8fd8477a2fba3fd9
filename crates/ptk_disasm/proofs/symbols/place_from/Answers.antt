use Rattle.std.proofs.Common.{rules, nat_lt}
use Rattle.std.proofs.lemmas.List.Sorted.{IsPartitionPoint-from_clause, IsPartitionedBy-ltb}
use Rattle.ptk_disasm.proofs.Places.{place_is}
use Rattle.ptk_disasm.proofs.symbols.place_from.Goals as goal

pub returns-clause-place : goal.returns-clause-place
returns-clause-place c =
    let parted = IsPartitionedBy-ltb (λ s. s.address) c.args.symbols.now c.args.from c.requires in
    let point = IsPartitionPoint-from_clause (λ s. nat_lt s.address c.args.from) c.args.symbols.now c.partition_point.result c.partition_point.ensures.partitioned parted (λ a r q k. search rules) in
    place_is c.args.from c.args.symbols.now c.partition_point.result c.partition_point.ensures.bound point
