use Rattle.ptk_words.specs.Threads.{left_at_end}
use Rattle.ptk_gate_pools.proofs.Changed.{left_pooled, again_held}
use Rattle.std.proofs.Common.{ap}
use Rattle.ptk_words.specs.Pools.{pool_left}
use Rattle.ptk_words.specs.Parts.{part_of}
use Rattle.ptk_threads.specs.Table.{ThreadTable}
use Rattle.ptk_gate_pools.proofs.pools.Pools.end.Goals as goal

pub invariant_of-self : goal.invariant_of-self
invariant_of-self c =
    left_pooled c.self.inside.hand c.args.t left_at_end c.self.inside c.end.new.self c.refresh.new.roster c.refresh.new.self c.self.invariant.in_hand c.end.ensures.table
    c.end.ensures.lines c.end.ensures.mutexes c.end.ensures.conditions c.refresh.ensures.roster
    c.self.invariant

pub returns : goal.returns
returns c =
    let a = c.self.inside in
    rw (← c.self.view_is)
    (again_held a.hand (pool_left c.args.t left_at_end (part_of a.roster.table.threads a.hand)) a c.end.new.self c.refresh.new.roster c.refresh.new.self (ap (λ (t : ThreadTable). t.threads) c.end.ensures.table)
    c.end.ensures.lines c.end.ensures.mutexes c.end.ensures.conditions c.refresh.ensures.roster c.self.invariant c.self.invariant.in_hand)
