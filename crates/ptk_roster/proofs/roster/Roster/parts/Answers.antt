use Rattle.std.proofs.Common.{◌∙◌, sym}
use Rattle.ptk_roster.proofs.Pools.{parts_of}
use Rattle.ptk_roster.proofs.roster.Roster.parts.Goals as goal

pub returns-clause-lines : goal.returns-clause-lines
returns-clause-lines c = (parts_of 4611686018427387904 c.self.inside.line c.self.inside.threads c.self.inside.mutexes c.self.inside.conditions c.args.self.now c.self.view_is c.self.invariant).lines ∙ sym c.parts.ensures.parts

pub returns-clause-mutexes : goal.returns-clause-mutexes
returns-clause-mutexes c = (parts_of 4611686018427387904 c.self.inside.line c.self.inside.threads c.self.inside.mutexes c.self.inside.conditions c.args.self.now c.self.view_is c.self.invariant).mutexes ∙ sym c.parts.ensures.parts

pub returns-clause-conditions : goal.returns-clause-conditions
returns-clause-conditions c = (parts_of 4611686018427387904 c.self.inside.line c.self.inside.threads c.self.inside.mutexes c.self.inside.conditions c.args.self.now c.self.view_is c.self.invariant).conditions ∙ sym c.parts.ensures.parts
