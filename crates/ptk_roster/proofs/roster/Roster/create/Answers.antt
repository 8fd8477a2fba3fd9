use Rattle.std.proofs.Common.{length, sym, ◌∙◌, ap}
use Rattle.ptk_roster.proofs.Rosters.{new_roster}
use Rattle.ptk_roster.proofs.Pools.{line_parts, new_whole}
use Rattle.ptk_roster.proofs.roster.Roster.create.Goals as goal

pub invariant_of-self : goal.invariant_of-self
invariant_of-self c = new_whole 4611686018427387904 c.self.inside.line c.args.p c.args.thread c.self.inside.threads _ c.self.inside.mutexes c.self.inside.conditions c.create.ensures.table
    (new_roster 4611686018427387904 c.self.inside.line c.args.p c.args.thread c.self.inside.threads (line_parts 4611686018427387904 c.self.inside.line c.self.inside.threads c.self.inside.mutexes c.self.inside.conditions c.args.self.now c.args.p c.self.view_is c.self.invariant c.requires).1
    (rw (← c.level-level.ensures.value) c.level-level.ensures.positive) (rw (← c.level-level.ensures.value) c.level-level.ensures.in_range)
    (sym (ap length c.stored-stored.ensures.priorities) ∙ c.stored-stored.ensures.same) c.self.invariant.lined)
    c.self.invariant
