use Rattle.std.specs.Prelude.{None}
use Rattle.ptk_gate_pools.proofs.Changed.{slot_pooled, again_held}
use Rattle.std.proofs.Common.{ap}
use Rattle.ptk_words.specs.Pools.{pool_set}
use Rattle.ptk_words.specs.Parts.{part_of}
use Rattle.ptk_threads.specs.Table.{ThreadTable}
use Rattle.ptk_gate_pools.proofs.pools.Pools.free.Goals as goal

pub invariant_of-self : goal.invariant_of-self
invariant_of-self c =
    slot_pooled c.self.inside.hand c.args.t 0 None c.self.inside c.free.new.self c.refresh.new.roster c.refresh.new.self c.self.invariant.in_hand c.free.ensures.table
    c.free.ensures.lines c.free.ensures.mutexes c.free.ensures.conditions c.refresh.ensures.roster
    c.self.invariant

pub returns : goal.returns
returns c =
    let a = c.self.inside in
    rw (← c.self.view_is)
    (again_held a.hand (pool_set (part_of a.roster.table.threads a.hand) c.args.t None) a c.free.new.self c.refresh.new.roster c.refresh.new.self (ap (λ (t : ThreadTable). t.threads) c.free.ensures.table)
    c.free.ensures.lines c.free.ensures.mutexes c.free.ensures.conditions c.refresh.ensures.roster c.self.invariant c.self.invariant.in_hand)
