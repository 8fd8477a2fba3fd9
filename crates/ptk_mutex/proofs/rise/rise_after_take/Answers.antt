use Rattle.std.proofs.Common.{ℕ, List, refl, ◌∙◌, ap}
use Rattle.ptk_words.specs.Parts.{part_of}
use Rattle.ptk_mutex.specs.Rosters.{with_priorities, next_at}
use Rattle.ptk_mutex.proofs.Visits.{unvisited}
use Rattle.ptk_mutex.proofs.Takes.{gained_of-here, take_rises, take_stays, take_visited}
use Rattle.ptk_mutex.proofs.Rosters.{same_priorities, risen_here}
use Rattle.ptk_mutex.proofs.rise.rise_after_take.Goals as goal

pub returns-then-gained-eq0-clause-stored : goal.returns-then-gained-eq0-clause-stored
returns-then-gained-eq0-clause-stored c =
    same_priorities c.args.p _ c.args.roster.now
    (take_stays c.args.t c.args.m _ (part_of c.args.roster.now.table.threads c.args.p) (part_of c.args.roster.now.mutexes c.args.p) (part_of c.args.roster.now.table.stored c.args.p) c.requires.used c.requires.owned c.requires.before (c.gained_of-gained.ensures.value ∙ gained_of-here (part_of c.args.roster.now.table.threads c.args.p) (part_of c.args.roster.now.table.stored c.args.p) c.args.m (part_of c.args.roster.now.mutexes c.args.p) c.mutex_slots.result.now c.mutex_slots.ensures.mutexes) c.if-gained-eq0.true)

pub returns-then-gained-eq0-clause-visited : goal.returns-then-gained-eq0-clause-visited
returns-then-gained-eq0-clause-visited c = unvisited (part_of c.args.roster.now.table.stored c.args.p)

pub returns-clause-stored : goal.returns-clause-stored
returns-clause-stored c =
    c.rise.ensures.stored ∙ ap (λ (s : List ℕ). with_priorities c.args.p s c.args.roster.now)
    (take_rises c.args.t c.args.m _ (part_of c.args.roster.now.table.threads c.args.p) (part_of c.args.roster.now.mutexes c.args.p) (part_of c.args.roster.now.table.stored c.args.p) _ c.requires.used c.requires.owned c.requires.before (c.gained_of-gained.ensures.value ∙ gained_of-here (part_of c.args.roster.now.table.threads c.args.p) (part_of c.args.roster.now.table.stored c.args.p) c.args.m (part_of c.args.roster.now.mutexes c.args.p) c.mutex_slots.result.now c.mutex_slots.ensures.mutexes) refl)

pub returns-clause-visited : goal.returns-clause-visited
returns-clause-visited c =
    take_visited c.args.m c.args.t _ _ (part_of c.args.roster.now.table.threads c.args.p) (part_of c.args.roster.now.mutexes c.args.p) (part_of c.args.roster.now.table.stored c.args.p) (part_of c.rise.new.roster.table.stored c.args.p) c.requires.before
    (risen_here (next_at c.args.p c.args.roster.now) _ _ c.args.t c.args.p c.args.roster.now c.rise.new.roster c.rise.ensures.stored) c.rise.ensures.visited
