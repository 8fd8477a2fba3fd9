use Rattle.std.proofs.Common.{lit<}
use Rattle.ptk_roster.proofs.Pools.{line_parts}
use Rattle.ptk_roster.proofs.roster.Roster.first_of_greatest.Goals as goal

pub first_of_greatest-requires : goal.first_of_greatest-requires
first_of_greatest-requires c = (lit< tt, (line_parts 4611686018427387904 c.self.inside.line c.self.inside.threads c.self.inside.mutexes c.self.inside.conditions c.args.self.now c.args.p c.self.view_is c.self.invariant c.requires, c.self.invariant.lined.filed))
