use Rattle.ptk_words_model.specs.Mutex.{after_unlock}
use Rattle.ptk_words_model.specs.State.{Locks}
use Rattle.ptk_cond.specs.LockTables.{locks_by}
use Rattle.ptk_gate_pools.proofs.Changed.{locks_pooled, locks_held}
use Rattle.ptk_gate_pools.proofs.pools.Pools.unlock.Goals as goal

pub invariant_of-self : goal.invariant_of-self
invariant_of-self c =
    let a = c.self.inside in
    let locks : Locks = locks_by a.hand a.roster.table a.roster.lines a.roster.mutexes in
    locks_pooled a.hand (after_unlock c.args.m locks) a c.unlock.new.roster c.unlock.new.self c.self.invariant.in_hand c.unlock.ensures.roster c.self.invariant

pub returns : goal.returns
returns c =
    let a = c.self.inside in
    let locks : Locks = locks_by a.hand a.roster.table a.roster.lines a.roster.mutexes in
    rw (← c.self.view_is)
    (locks_held a.hand (after_unlock c.args.m locks) a c.unlock.new.roster c.unlock.new.self c.unlock.ensures.roster c.self.invariant c.self.invariant.in_hand)
