use Rattle.std.proofs.Common.{◌≡◌, List, false, refl, sym, subst}
use Rattle.std.specs.Prelude.{Option}
use Rattle.std.proofs.Math.ListN.{set}
use Rattle.ptk_words.specs.Pools.{pool_get}
use Rattle.ptk_words.specs.Parts.{part_of}
use Rattle.ptk_words_model.specs.State.{Mutex, locks_of}
use Rattle.ptk_words_model.specs.Mutex.{mutex_at, after_take}
use Rattle.ptk_roster.specs.Plain.{is_raising_at}
use Rattle.ptk_gate_pools.specs.Held.{Held}
use Rattle.ptk_gate_pools.proofs.PlainMutexes.{stored_taken}
use Rattle.ptk_gate_pools.proofs.Changed.{mutexes_pooled, mutexes_held}
use Rattle.ptk_gate_pools.proofs.pools.Pools.take_plain.Goals as goal

-- no priority changes
pub invariant_of-self : goal.invariant_of-self
invariant_of-self c =
    let a = c.self.inside in
    let row : List (Option Mutex) = (after_take c.args.t c.args.m (locks_of (part_of a.roster.table.threads a.hand) (part_of a.roster.mutexes a.hand))).mutexes in
    let plain : is_raising_at (pool_get (part_of a.roster.mutexes a.hand) c.args.m) ≡ false = subst (λ (pools : Held). is_raising_at (mutex_at pools.here.locks c.args.m) ≡ false) (sym c.self.view_is) c.requires.plain in
    mutexes_pooled a.hand row a c.take_plain.new.roster c.take_plain.new.self c.take_plain.ensures.roster
    (stored_taken a.hand c.args.t c.args.m a.roster.table.stored a.roster.table.threads a.roster.mutexes (set a.roster.mutexes a.hand row) plain refl c.self.invariant.stored)
    c.self.invariant

pub returns : goal.returns
returns c =
    let a = c.self.inside in
    let row : List (Option Mutex) = (after_take c.args.t c.args.m (locks_of (part_of a.roster.table.threads a.hand) (part_of a.roster.mutexes a.hand))).mutexes in
    rw (← c.self.view_is) (mutexes_held a.hand row a c.take_plain.new.roster c.take_plain.new.self c.take_plain.ensures.roster c.self.invariant c.self.invariant.in_hand)
