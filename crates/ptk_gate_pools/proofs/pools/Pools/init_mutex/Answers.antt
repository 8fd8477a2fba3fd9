use Rattle.std.proofs.Common.{◌≡◌, List, ◌∙◌, ap, refl}
use Rattle.std.specs.Prelude.{Option, Some}
use Rattle.std.proofs.Math.ListN.{set}
use Rattle.ptk_words.specs.Pools.{least_free, pool_set}
use Rattle.ptk_words.specs.Parts.{part_of}
use Rattle.ptk_words_model.specs.State.{Mutex}
use Rattle.ptk_words_model.specs.Mutex.{new_mutex}
use Rattle.ptk_cond.specs.LockPool.{with_new_mutex}
use Rattle.ptk_gate_pools.specs.Held.{Held}
use Rattle.ptk_gate_pools.proofs.Vacant.{opened_at, stored_opened}
use Rattle.ptk_gate_pools.proofs.Changed.{mutexes_pooled, mutexes_held}
use Rattle.ptk_gate_pools.proofs.pools.Pools.init_mutex.Goals as goal

-- a mutex that is not locked raises nobody
pub invariant_of-self : goal.invariant_of-self
invariant_of-self c =
    let a = c.self.inside in
    let free : least_free (part_of a.roster.mutexes a.hand) ≡ Some c.args.m = ap (λ (pools : Held). least_free pools.here.mutexes) c.self.view_is ∙ c.requires.free in
    let row : List (Option Mutex) = with_new_mutex (new_mutex c.args.kind c.args.protocol c.args.is_robust) (part_of a.roster.mutexes a.hand) in
    mutexes_pooled a.hand row a c.init.new.roster c.init.new.self c.init.ensures.roster
    (stored_opened a.hand c.args.m c.args.kind c.args.protocol c.args.is_robust a.roster.table.stored a.roster.table.threads a.roster.mutexes (set a.roster.mutexes a.hand row) free refl c.self.invariant.stored)
    c.self.invariant

pub returns : goal.returns
returns c =
    let a = c.self.inside in
    let free : least_free (part_of a.roster.mutexes a.hand) ≡ Some c.args.m = ap (λ (pools : Held). least_free pools.here.mutexes) c.self.view_is ∙ c.requires.free in
    let mutex : Mutex = new_mutex c.args.kind c.args.protocol c.args.is_robust in
    rw (← c.self.view_is)
    (mutexes_held a.hand (pool_set (part_of a.roster.mutexes a.hand) c.args.m (Some mutex)) a c.init.new.roster c.init.new.self
    (c.init.ensures.roster ∙ ap (λ (l : List (List (Option Mutex))). record a.roster { mutexes = l }) (opened_at a.hand c.args.m mutex a.roster.mutexes _ free refl))
    c.self.invariant c.self.invariant.in_hand)
