use Rattle.std.proofs.Common.{ℕ, List, refl, sym, ◌∙◌, ap}
use Rattle.ptk_words.specs.Parts.{part_of}
use Rattle.ptk_mutex.specs.Rosters.{with_priorities, next_at}
use Rattle.ptk_mutex.proofs.Visits.{unvisited}
use Rattle.ptk_mutex.proofs.Waits.{wait_rises, wait_stays, wait_visited}
use Rattle.ptk_mutex.proofs.Rosters.{same_priorities, risen_here}
use Rattle.ptk_mutex.proofs.rise.rise_behind.Goals as goal

pub returns-in-Some-clause-stored : goal.returns-in-Some-clause-stored
returns-in-Some-clause-stored c =
    c.rise.ensures.stored ∙ ap (λ (s : List ℕ). with_priorities c.args.p s c.args.roster.now)
    (wait_rises c.args.t c.in-Some.owner _ (part_of c.args.roster.now.table.threads c.args.p) (part_of c.args.roster.now.mutexes c.args.p) (part_of c.args.roster.now.table.stored c.args.p) _ c.requires.before
    (sym c.requires.next ∙ c.in-Some.is) c.stored_priority-priority.ensures.value refl)

pub returns-in-Some-clause-visited : goal.returns-in-Some-clause-visited
returns-in-Some-clause-visited c =
    wait_visited c.args.t c.in-Some.owner _ _ (part_of c.args.roster.now.table.threads c.args.p) (part_of c.args.roster.now.mutexes c.args.p) (part_of c.args.roster.now.table.stored c.args.p) (part_of c.rise.new.roster.table.stored c.args.p) c.requires.before
    (risen_here (next_at c.args.p c.args.roster.now) _ _ c.in-Some.owner c.args.p c.args.roster.now c.rise.new.roster c.rise.ensures.stored) c.rise.ensures.visited

pub returns-in-None-clause-stored : goal.returns-in-None-clause-stored
returns-in-None-clause-stored c =
    same_priorities c.args.p _ c.args.roster.now
    (wait_stays c.args.t (part_of c.args.roster.now.table.threads c.args.p) (part_of c.args.roster.now.mutexes c.args.p) (part_of c.args.roster.now.table.stored c.args.p) c.requires.before
    (sym c.requires.next ∙ c.in-None.is))

pub returns-in-None-clause-visited : goal.returns-in-None-clause-visited
returns-in-None-clause-visited c = unvisited (part_of c.args.roster.now.table.stored c.args.p)
