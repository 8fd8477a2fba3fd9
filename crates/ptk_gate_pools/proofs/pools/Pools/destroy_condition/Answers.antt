use Rattle.std.specs.Prelude.{None}
use Rattle.ptk_words.specs.Pools.{pool_set}
use Rattle.ptk_words.specs.Parts.{part_of}
use Rattle.ptk_gate_pools.proofs.Changed.{conditions_pooled, conditions_held}
use Rattle.ptk_gate_pools.proofs.pools.Pools.destroy_condition.Goals as goal

pub invariant_of-self : goal.invariant_of-self
invariant_of-self c =
    let a = c.self.inside in
    conditions_pooled a.hand (pool_set (part_of a.roster.conditions a.hand) c.args.c None) a c.destroy.new.roster c.destroy.ensures.roster c.self.invariant

pub returns : goal.returns
returns c =
    let a = c.self.inside in
    rw (← c.self.view_is)
    (conditions_held a.hand (pool_set (part_of a.roster.conditions a.hand) c.args.c None) a c.destroy.new.roster c.destroy.ensures.roster c.self.invariant c.self.invariant.in_hand)
