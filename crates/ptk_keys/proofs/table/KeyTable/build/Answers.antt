use Rattle.ptk_keys.proofs.Tables.{kept_built}
use Rattle.ptk_keys.proofs.table.KeyTable.build.Goals as goal

pub invariant_of-result : goal.invariant_of-result
invariant_of-result c = kept_built _ _ _ _ _ c.args.limits.now c.requires.keys c.in_ok-destructors.ensures c.in_ok-values.ensures c.in_ok-rounds.ensures
