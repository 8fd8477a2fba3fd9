use Rattle.ptk_words.specs.declared.mutexes.Soundness.TheVariants.{Consistent}
use Rattle.ptk_words_model.specs.Mutex.{with_soundness}
use Rattle.ptk_words_model.specs.State.{Locks}
use Rattle.ptk_cond.specs.LockTables.{locks_by}
use Rattle.ptk_gate_pools.proofs.Changed.{locks_pooled, locks_held}
use Rattle.ptk_gate_pools.proofs.pools.Pools.make_consistent.Goals as goal

pub invariant_of-self : goal.invariant_of-self
invariant_of-self c =
    let a = c.self.inside in
    let locks : Locks = locks_by a.hand a.roster.table a.roster.lines a.roster.mutexes in
    locks_pooled a.hand (with_soundness Consistent c.args.m locks) a c.consistent.new.roster c.consistent.new.self c.self.invariant.in_hand c.consistent.ensures.roster c.self.invariant

pub returns : goal.returns
returns c =
    let a = c.self.inside in
    let locks : Locks = locks_by a.hand a.roster.table a.roster.lines a.roster.mutexes in
    rw (← c.self.view_is)
    (locks_held a.hand (with_soundness Consistent c.args.m locks) a c.consistent.new.roster c.consistent.new.self c.consistent.ensures.roster c.self.invariant c.self.invariant.in_hand)
