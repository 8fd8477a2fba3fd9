use Rattle.std.specs.Prelude.{None}
use Rattle.ptk_words.specs.declared.threads.Wait.TheVariants.{MutexWait}
use Rattle.ptk_words_model.specs.Mutex.{mutex_at, trylock_move, after_move}
use Rattle.ptk_words_model.specs.State.{Locks}
use Rattle.ptk_cond.specs.LockTables.{locks_by}
use Rattle.ptk_gate_pools.proofs.Changed.{locks_pooled, locks_held}
use Rattle.ptk_gate_pools.proofs.pools.Pools.trylock.Goals as goal

pub invariant_of-self : goal.invariant_of-self
invariant_of-self c =
    let a = c.self.inside in
    let locks : Locks = locks_by a.hand a.roster.table a.roster.lines a.roster.mutexes in
    locks_pooled a.hand (after_move (trylock_move locks c.args.t (mutex_at locks c.args.m)) c.args.t c.args.m (MutexWait c.args.m None) locks) a c.trylock.new.roster c.trylock.new.self c.self.invariant.in_hand c.trylock.ensures.roster c.self.invariant

pub returns-clause-moved : goal.returns-clause-moved
returns-clause-moved c =
    let a = c.self.inside in
    let locks : Locks = locks_by a.hand a.roster.table a.roster.lines a.roster.mutexes in
    rw (← c.self.view_is)
    (locks_held a.hand (after_move (trylock_move locks c.args.t (mutex_at locks c.args.m)) c.args.t c.args.m (MutexWait c.args.m None) locks) a c.trylock.new.roster c.trylock.new.self c.trylock.ensures.roster c.self.invariant c.self.invariant.in_hand)
