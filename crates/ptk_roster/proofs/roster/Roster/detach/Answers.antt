use Rattle.std.proofs.Common.{◌≡◌, false, sym, subst}
use Rattle.std.specs.Prelude.{None, option_and_then}
use Rattle.ptk_words.specs.Pools.{is_in}
use Rattle.ptk_words.specs.Threads.{left_at_detach}
use Rattle.ptk_words.specs.Parts.{part_of}
use Rattle.ptk_threads.specs.Table.{thread_in}
use Rattle.ptk_roster.specs.Rosters.{Rostered}
use Rattle.ptk_roster.proofs.Rosters.{left_roster}
use Rattle.ptk_roster.proofs.Pools.{line_parts, left_whole}
use Rattle.ptk_roster.proofs.roster.Roster.detach.Goals as goal

pub invariant_of-self : goal.invariant_of-self
invariant_of-self c = left_whole 4611686018427387904 c.self.inside.line c.args.p c.args.k left_at_detach c.self.inside.threads _ c.self.inside.mutexes c.self.inside.conditions c.detach.ensures
    (left_roster 4611686018427387904 c.self.inside.line c.args.p c.args.k left_at_detach c.self.inside.threads (line_parts 4611686018427387904 c.self.inside.line c.self.inside.threads c.self.inside.mutexes c.self.inside.conditions c.args.self.now c.args.p c.self.view_is c.self.invariant c.requires.partition).1
    (subst (λ (n : Rostered). option_and_then left_at_detach (thread_in n.table c.args.p c.args.k) ≡ None → is_in c.args.k (part_of n.lines c.args.p) ≡ false) (sym c.self.view_is) c.requires.out) c.self.invariant.lined)
    c.self.invariant
