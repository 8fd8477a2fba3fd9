use Rattle.std.proofs.Common.{ℕ, List, sym, ap, subst}
use Rattle.ptk_roster.specs.declared.slot.Change.TheVariants.{CountUp}
use Rattle.ptk_roster.specs.Rosters.{Rostered}
use Rattle.ptk_mutex.specs.Visits.{IsVisited}
use Rattle.ptk_mutex.proofs.Raised.{amended_put}
use Rattle.ptk_mutex.proofs.Visits.{unvisited}
use Rattle.ptk_words.specs.Parts.{part_of}
use Rattle.ptk_mutex.proofs.rising.count_up.Goals as goal

pub returns-clause-roster : goal.returns-clause-roster
returns-clause-roster c = amended_put CountUp c.args.p c.args.m c.args.roster.now c.change_mutex.new.self tt c.requires.ready c.change_mutex.ensures

pub returns-clause-visited : goal.returns-clause-visited
returns-clause-visited c =
    subst (λ (l : List (List ℕ)). IsVisited 0 (part_of c.args.roster.now.table.stored c.args.p) (part_of l c.args.p)) (sym (ap (λ (r : Rostered). r.table.stored) c.change_mutex.ensures)) (unvisited (part_of c.args.roster.now.table.stored c.args.p))
