use Rattle.ptk_roster.proofs.Pools.{line_parts, changed_whole}
use Rattle.ptk_roster.proofs.roster.Roster.update_if_used.Goals as goal

pub invariant_of-self : goal.invariant_of-self
invariant_of-self g c =
    changed_whole 4611686018427387904 c.self.inside.line c.args.p c.args.k (g.C.ThreadChange.changed c.args.change.now) c.self.inside.threads c.update_if_used.new.self c.self.inside.mutexes c.self.inside.conditions c.update_if_used.ensures (line_parts 4611686018427387904 c.self.inside.line c.self.inside.threads c.self.inside.mutexes c.self.inside.conditions c.args.self.now c.args.p c.self.view_is c.self.invariant c.requires.partition).1 c.self.invariant
