use Rattle.std.proofs.Common.{◌≡◌, false, sym, subst}
use Rattle.ptk_words.specs.Pools.{is_in}
use Rattle.ptk_words.specs.Threads.{left_at_end}
use Rattle.ptk_words.specs.Parts.{part_of}
use Rattle.ptk_roster.specs.Rosters.{Rostered}
use Rattle.ptk_roster.proofs.Rosters.{left_roster}
use Rattle.ptk_roster.proofs.Pools.{line_parts, left_whole}
use Rattle.ptk_roster.proofs.roster.Roster.end.Goals as goal

pub invariant_of-self : goal.invariant_of-self
invariant_of-self c = left_whole 4611686018427387904 c.self.inside.line c.args.p c.args.k left_at_end c.self.inside.threads _ c.self.inside.mutexes c.self.inside.conditions c.end.ensures
    (left_roster 4611686018427387904 c.self.inside.line c.args.p c.args.k left_at_end c.self.inside.threads (line_parts 4611686018427387904 c.self.inside.line c.self.inside.threads c.self.inside.mutexes c.self.inside.conditions c.args.self.now c.args.p c.self.view_is c.self.invariant c.requires.partition).1
    (λ left. subst (λ (n : Rostered). is_in c.args.k (part_of n.lines c.args.p) ≡ false) (sym c.self.view_is) c.requires.out) c.self.invariant.lined)
    c.self.invariant
