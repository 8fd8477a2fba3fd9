use Rattle.std.proofs.Common.{◌≡◌, List, false, refl, sym, subst}
use Rattle.std.specs.Prelude.{Option}
use Rattle.std.proofs.Math.ListN.{set}
use Rattle.ptk_words.specs.Pools.{pool_get}
use Rattle.ptk_words.specs.Parts.{part_of}
use Rattle.ptk_words_model.specs.State.{Mutex, locks_of}
use Rattle.ptk_words_model.specs.Mutex.{mutex_at, after_free}
use Rattle.ptk_roster.specs.Plain.{is_raising_at}
use Rattle.ptk_gate_pools.specs.Held.{Held}
use Rattle.ptk_gate_pools.proofs.PlainMutexes.{stored_freed}
use Rattle.ptk_gate_pools.proofs.Changed.{mutexes_pooled, mutexes_held}
use Rattle.ptk_gate_pools.proofs.pools.Pools.release_plain.Goals as goal

-- no priority changes
pub invariant_of-self : goal.invariant_of-self
invariant_of-self c =
    let a = c.self.inside in
    let row : List (Option Mutex) = (after_free c.args.m (locks_of (part_of a.roster.table.threads a.hand) (part_of a.roster.mutexes a.hand))).mutexes in
    let plain : is_raising_at (pool_get (part_of a.roster.mutexes a.hand) c.args.m) ≡ false = subst (λ (pools : Held). is_raising_at (mutex_at pools.here.locks c.args.m) ≡ false) (sym c.self.view_is) c.requires.plain in
    mutexes_pooled a.hand row a c.release_plain.new.roster c.release_plain.new.self c.release_plain.ensures.roster
    (stored_freed a.hand c.args.m a.roster.table.stored a.roster.table.threads a.roster.mutexes (set a.roster.mutexes a.hand row) plain refl c.self.invariant.stored)
    c.self.invariant

pub returns : goal.returns
returns c =
    let a = c.self.inside in
    let row : List (Option Mutex) = (after_free c.args.m (locks_of (part_of a.roster.table.threads a.hand) (part_of a.roster.mutexes a.hand))).mutexes in
    rw (← c.self.view_is) (mutexes_held a.hand row a c.release_plain.new.roster c.release_plain.new.self c.release_plain.ensures.roster c.self.invariant c.self.invariant.in_hand)
