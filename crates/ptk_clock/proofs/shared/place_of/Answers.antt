use Rattle.std.proofs.Common.{not, rules}
use Rattle.std.proofs.lemmas.List.Sorted.{IsPartitionPoint-from_clause}
use Rattle.ptk_clock.specs.Pairs.{Pair, is_before}
use Rattle.ptk_clock.proofs.Places.{parted-before, insert-point}
use Rattle.ptk_clock.proofs.shared.place_of.Goals as goal

pub returns-clause-place : goal.returns-clause-place
returns-clause-place c =
    let point = IsPartitionPoint-from_clause (λ (a : Pair). not (is_before c.args.new a)) _ _ c.partition_point.ensures.partitioned (parted-before c.args.new _ c.requires) (λ a r q k. search rules) in
    insert-point c.args.new _ _ c.partition_point.ensures.bound point
