use Rattle.std.proofs.Common.{refl, ap}
use Rattle.std.specs.Prelude.{None}
use Rattle.ptk_roster.specs.Rosters.{Rostered}
use Rattle.ptk_roster.proofs.Opens.{pool_parts, slot_whole, slot_seen, empty_queue}
use Rattle.ptk_roster.proofs.roster.Roster.close_mutex.Goals as goal

pub invariant_of-self : goal.invariant_of-self
invariant_of-self c = slot_whole 4611686018427387904 c.self.inside.line c.self.inside.threads c.self.inside.mutexes c.self.inside.conditions c.args.p c.args.m None c.lend.result.now c.close_in.new.slots (pool_parts 4611686018427387904 c.self.inside.line c.self.inside.threads c.self.inside.mutexes c.self.inside.conditions c.args.self.now c.args.p c.self.view_is c.self.invariant c.requires.partition).0 c.lend.ensures.value c.close_in.ensures refl
    (λ none pos le. empty_queue c.self.inside.threads c.self.inside.mutexes c.self.inside.conditions c.args.self.now.mutexes c.args.p c.args.m c.self.invariant.pools pos le (ap (λ (n : Rostered). n.mutexes) c.self.view_is) c.requires.unused) c.self.invariant

pub returns : goal.returns
returns c = slot_seen c.self.inside.line c.self.inside.threads c.self.inside.mutexes c.self.inside.conditions c.args.self.now c.args.p c.args.m None None c.lend.result.now c.close_in.new.slots (pool_parts 4611686018427387904 c.self.inside.line c.self.inside.threads c.self.inside.mutexes c.self.inside.conditions c.args.self.now c.args.p c.self.view_is c.self.invariant c.requires.partition).0 c.lend.ensures.value c.close_in.ensures refl c.self.view_is
