use Rattle.std.proofs.Common.{false, refl, ap}
use Rattle.std.specs.Prelude.{None}
use Rattle.ptk_roster.specs.Rosters.{Rostered}
use Rattle.ptk_roster.proofs.Opens.{pool_parts, mark_whole, mark_seen, empty_sleepers}
use Rattle.ptk_roster.proofs.roster.Roster.close_condition.Goals as goal

pub invariant_of-self : goal.invariant_of-self
invariant_of-self c = mark_whole 4611686018427387904 c.self.inside.line c.self.inside.threads c.self.inside.mutexes c.self.inside.conditions c.args.p c.args.c false c.lend.result.now c.mark.new.marks (pool_parts 4611686018427387904 c.self.inside.line c.self.inside.threads c.self.inside.mutexes c.self.inside.conditions c.args.self.now c.args.p c.self.view_is c.self.invariant c.requires.partition).1 c.lend.ensures.value c.mark.ensures
    (λ none pos. empty_sleepers c.self.inside.threads c.self.inside.mutexes c.self.inside.conditions c.args.self.now.conditions c.args.p c.args.c c.self.invariant.pools pos (ap (λ (n : Rostered). n.conditions) c.self.view_is) c.requires.unused) c.self.invariant

pub returns : goal.returns
returns c = mark_seen c.self.inside.line c.self.inside.threads c.self.inside.mutexes c.self.inside.conditions c.args.self.now c.args.p c.args.c false None c.lend.result.now c.mark.new.marks (pool_parts 4611686018427387904 c.self.inside.line c.self.inside.threads c.self.inside.mutexes c.self.inside.conditions c.args.self.now c.args.p c.self.view_is c.self.invariant c.requires.partition).1 c.lend.ensures.value c.mark.ensures refl c.self.view_is
