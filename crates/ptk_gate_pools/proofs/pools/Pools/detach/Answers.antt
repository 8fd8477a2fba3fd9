use Rattle.ptk_words.specs.Threads.{left_at_detach}
use Rattle.ptk_gate_pools.proofs.Changed.{left_pooled, again_held}
use Rattle.std.proofs.Common.{ap}
use Rattle.ptk_words.specs.Pools.{pool_left}
use Rattle.ptk_words.specs.Parts.{part_of}
use Rattle.ptk_threads.specs.Table.{ThreadTable}
use Rattle.ptk_gate_pools.proofs.pools.Pools.detach.Goals as goal

pub invariant_of-self : goal.invariant_of-self
invariant_of-self c =
    left_pooled c.self.inside.hand c.args.t left_at_detach c.self.inside c.detach.new.self c.refresh.new.roster c.refresh.new.self c.self.invariant.in_hand c.detach.ensures.table
    c.detach.ensures.lines c.detach.ensures.mutexes c.detach.ensures.conditions c.refresh.ensures.roster
    c.self.invariant

pub returns : goal.returns
returns c =
    let a = c.self.inside in
    rw (← c.self.view_is)
    (again_held a.hand (pool_left c.args.t left_at_detach (part_of a.roster.table.threads a.hand)) a c.detach.new.self c.refresh.new.roster c.refresh.new.self (ap (λ (t : ThreadTable). t.threads) c.detach.ensures.table)
    c.detach.ensures.lines c.detach.ensures.mutexes c.detach.ensures.conditions c.refresh.ensures.roster c.self.invariant c.self.invariant.in_hand)
