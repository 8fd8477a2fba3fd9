use Rattle.std.proofs.Common.{◌≡◌, ◌∙◌, ap, sym, subst}
use Rattle.ptk_words.specs.declared.threads.Wait.TheVariants.{MutexWait}
use Rattle.ptk_words_model.specs.declared.LockMove.{LockMove}
use Rattle.ptk_words_model.specs.declared.LockMove.TheVariants.{Waits}
use Rattle.ptk_words_model.specs.Mutex.{mutex_at, lock_move, after_move}
use Rattle.ptk_words_model.specs.State.{Locks}
use Rattle.ptk_cond.specs.LockTables.{locks_by, put_locks}
use Rattle.ptk_gate_pools.specs.Held.{Held}
use Rattle.ptk_gate_pools.proofs.Changed.{locks_pooled, locks_held}
use Rattle.ptk_gate_pools.proofs.pools.Pools.wait_for.Goals as goal

pub invariant_of-self : goal.invariant_of-self
invariant_of-self c =
    let a = c.self.inside in
    let locks : Locks = locks_by a.hand a.roster.table a.roster.lines a.roster.mutexes in
    locks_pooled a.hand (after_move (lock_move locks c.args.t (mutex_at locks c.args.m)) c.args.t c.args.m (MutexWait c.args.m c.args.deadline) locks) a c.wait_for.new.roster c.wait_for.new.self c.self.invariant.in_hand c.wait_for.ensures.roster c.self.invariant

pub returns : goal.returns
returns c =
    let a = c.self.inside in
    let locks : Locks = locks_by a.hand a.roster.table a.roster.lines a.roster.mutexes in
    let after : LockMove → Locks = λ made. after_move made c.args.t c.args.m (MutexWait c.args.m c.args.deadline) locks in
    let waits : lock_move locks c.args.t (mutex_at locks c.args.m) ≡ Waits = subst (λ (pools : Held). lock_move pools.here.locks c.args.t (mutex_at pools.here.locks c.args.m) ≡ Waits) (sym c.self.view_is) c.requires.waits in
    rw (← c.self.view_is)
    (locks_held a.hand (after Waits) a c.wait_for.new.roster c.wait_for.new.self (c.wait_for.ensures.roster ∙ ap (λ (made : LockMove). put_locks a.hand (after made) a.roster) waits) c.self.invariant c.self.invariant.in_hand)
