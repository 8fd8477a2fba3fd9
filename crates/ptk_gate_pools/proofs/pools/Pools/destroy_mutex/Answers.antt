use Rattle.std.proofs.Common.{◌≡◌, List, [], false, refl, sym, subst}
use Rattle.std.specs.Prelude.{Option, None}
use Rattle.std.proofs.Math.ListN.{set}
use Rattle.ptk_words.specs.Pools.{pool_get, pool_set}
use Rattle.ptk_words.specs.Parts.{part_of}
use Rattle.ptk_words_model.specs.State.{Mutex}
use Rattle.ptk_words_model.specs.Mutex.{mutex_at, waiters_of}
use Rattle.ptk_words_model.specs.MutexCalls.{is_locked}
use Rattle.ptk_gate_pools.specs.Held.{Held}
use Rattle.ptk_gate_pools.proofs.Vacant.{stored_closed}
use Rattle.ptk_gate_pools.proofs.Changed.{mutexes_pooled, mutexes_held}
use Rattle.ptk_gate_pools.proofs.pools.Pools.destroy_mutex.Goals as goal

-- a mutex that is not locked raises nobody
pub invariant_of-self : goal.invariant_of-self
invariant_of-self c =
    let a = c.self.inside in
    let row : List (Option Mutex) = pool_set (part_of a.roster.mutexes a.hand) c.args.m None in
    let unlocked : is_locked (pool_get (part_of a.roster.mutexes a.hand) c.args.m) ≡ false = subst (λ (pools : Held). is_locked (mutex_at pools.here.locks c.args.m) ≡ false) (sym c.self.view_is) c.requires.unlocked in
    let unwaited : waiters_of (pool_get (part_of a.roster.mutexes a.hand) c.args.m) ≡ [] = subst (λ (pools : Held). waiters_of (mutex_at pools.here.locks c.args.m) ≡ []) (sym c.self.view_is) c.requires.unwaited in
    mutexes_pooled a.hand row a c.destroy.new.roster c.destroy.new.self c.destroy.ensures.roster
    (stored_closed a.hand c.args.m a.roster.table.stored a.roster.table.threads a.roster.mutexes (set a.roster.mutexes a.hand row) unlocked unwaited refl c.self.invariant.stored)
    c.self.invariant

pub returns : goal.returns
returns c =
    let a = c.self.inside in
    rw (← c.self.view_is)
    (mutexes_held a.hand (pool_set (part_of a.roster.mutexes a.hand) c.args.m None) a c.destroy.new.roster c.destroy.new.self c.destroy.ensures.roster c.self.invariant c.self.invariant.in_hand)
