use Rattle.std.proofs.Common.{rules}
use Rattle.std.specs.Prelude.{nat_le}
use Rattle.std.proofs.lemmas.List.Sorted.{IsPartitionPoint-from_clause}
use Rattle.ptk_clock.specs.Pairs.{Pair}
use Rattle.ptk_clock.proofs.Places.{parted-due}
use Rattle.ptk_clock.proofs.shared.due_count.Goals as goal

pub returns-clause-due : goal.returns-clause-due
returns-clause-due c =
    let point = IsPartitionPoint-from_clause (λ (a : Pair). nat_le a.0 c.args.now) _ _ c.partition_point.ensures.partitioned (parted-due c.args.now _ c.requires) (λ a r q k. search rules) in
    point.0

pub returns-clause-later : goal.returns-clause-later
returns-clause-later c =
    let point = IsPartitionPoint-from_clause (λ (a : Pair). nat_le a.0 c.args.now) _ _ c.partition_point.ensures.partitioned (parted-due c.args.now _ c.requires) (λ a r q k. search rules) in
    point.1
