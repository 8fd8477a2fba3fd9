use Rattle.std.proofs.Common.{true, ap, arith}
use Rattle.std.specs.Prelude.{Some}
use Rattle.ptk_roster.specs.Waiters.{condition_of}
use Rattle.ptk_roster.specs.Rosters.{Rostered}
use Rattle.ptk_roster.proofs.Opens.{pool_parts, mark_whole, mark_seen, free_sleepers}
use Rattle.ptk_roster.proofs.roster.Roster.open_condition.Goals as goal

pub invariant_of-self : goal.invariant_of-self
invariant_of-self c = mark_whole 4611686018427387904 c.self.inside.line c.self.inside.threads c.self.inside.mutexes c.self.inside.conditions c.args.p c.args.c true c.lend.result.now c.mark.new.marks (pool_parts 4611686018427387904 c.self.inside.line c.self.inside.threads c.self.inside.mutexes c.self.inside.conditions c.args.self.now c.args.p c.self.view_is c.self.invariant c.requires.partition).1 c.lend.ensures.value c.mark.ensures (λ none. absurd (cc)) c.self.invariant

pub returns : goal.returns
returns c = mark_seen c.self.inside.line c.self.inside.threads c.self.inside.mutexes c.self.inside.conditions c.args.self.now c.args.p c.args.c true _ c.lend.result.now c.mark.new.marks (pool_parts 4611686018427387904 c.self.inside.line c.self.inside.threads c.self.inside.mutexes c.self.inside.conditions c.args.self.now c.args.p c.self.view_is c.self.invariant c.requires.partition).1 c.lend.ensures.value c.mark.ensures
    (ap (λ w. Some (condition_of w)) (free_sleepers c.self.inside.threads c.self.inside.mutexes c.self.inside.conditions c.args.self.now.conditions c.args.p c.args.c c.self.invariant.pools (omega (arith, c.number-number.ensures.value, c.number-number.ensures.positive)) (ap (λ (n : Rostered). n.conditions) c.self.view_is) c.requires.free)) c.self.view_is
