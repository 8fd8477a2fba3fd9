use Rattle.std.proofs.Common.{◌≡◌, refl, sym, ap, subst, arith}
use Rattle.std.specs.Prelude.{Some, None}
use Rattle.ptk_words.specs.Pools.{pool_get}
use Rattle.ptk_words.specs.Parts.{part_of}
use Rattle.ptk_words_model.specs.Mutex.{new_mutex}
use Rattle.ptk_roster.specs.Slots.{with_waiters}
use Rattle.ptk_roster.specs.Rosters.{Rostered}
use Rattle.ptk_roster.proofs.Seen.{free_mutex_at}
use Rattle.ptk_roster.proofs.Opens.{pool_parts, slot_whole, slot_seen, free_queue}
use Rattle.ptk_roster.proofs.roster.Roster.open_mutex.Goals as goal

pub open_in-requires : goal.open_in-requires
open_in-requires c = subst (λ z. pool_get z c.args.m ≡ None) (sym c.lend.ensures.value)
    (free_mutex_at c.self.inside.threads.queues c.self.inside.mutexes c.args.p c.args.m (subst (λ (n : Rostered). pool_get (part_of n.mutexes c.args.p) c.args.m ≡ None) (sym c.self.view_is) c.requires.free))

pub invariant_of-self : goal.invariant_of-self
invariant_of-self c = slot_whole 4611686018427387904 c.self.inside.line c.self.inside.threads c.self.inside.mutexes c.self.inside.conditions c.args.p c.args.m (Some (new_mutex c.args.kind c.args.protocol c.args.is_robust)) c.lend.result.now c.open_in.new.slots (pool_parts 4611686018427387904 c.self.inside.line c.self.inside.threads c.self.inside.mutexes c.self.inside.conditions c.args.self.now c.args.p c.self.view_is c.self.invariant c.requires.partition).0 c.lend.ensures.value c.open_in.ensures refl
    (λ none. absurd (cc)) c.self.invariant

pub returns : goal.returns
returns c = slot_seen c.self.inside.line c.self.inside.threads c.self.inside.mutexes c.self.inside.conditions c.args.self.now c.args.p c.args.m (Some (new_mutex c.args.kind c.args.protocol c.args.is_robust)) (Some (new_mutex c.args.kind c.args.protocol c.args.is_robust)) c.lend.result.now c.open_in.new.slots (pool_parts 4611686018427387904 c.self.inside.line c.self.inside.threads c.self.inside.mutexes c.self.inside.conditions c.args.self.now c.args.p c.self.view_is c.self.invariant c.requires.partition).0 c.lend.ensures.value c.open_in.ensures
    (ap (λ w. with_waiters w (Some (new_mutex c.args.kind c.args.protocol c.args.is_robust))) (free_queue c.self.inside.threads c.self.inside.mutexes c.self.inside.conditions c.args.self.now.mutexes c.args.p c.args.m c.self.invariant.pools (omega (arith, c.number-number.ensures.value, c.number-number.ensures.positive)) (omega (arith, c.number-number.ensures.value, c.number-number.ensures.in_range)) (ap (λ (n : Rostered). n.mutexes) c.self.view_is) c.requires.free)) c.self.view_is
