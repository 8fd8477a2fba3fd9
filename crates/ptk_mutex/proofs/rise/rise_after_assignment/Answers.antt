use Rattle.std.proofs.Common.{ℕ, List, refl, ◌∙◌, ap}
use Rattle.std.specs.Prelude.{Option}
use Rattle.ptk_words.specs.declared.threads.Thread.{Thread}
use Rattle.ptk_words.specs.Parts.{part_of}
use Rattle.ptk_words_model.specs.Priority.{assigned_of}
use Rattle.ptk_mutex.specs.Rosters.{with_priorities, next_at}
use Rattle.ptk_mutex.proofs.Takes.{assignment_rises, assignment_visited}
use Rattle.ptk_mutex.proofs.Rosters.{risen_here}
use Rattle.ptk_mutex.proofs.rise.rise_after_assignment.Goals as goal

pub returns-clause-stored : goal.returns-clause-stored
returns-clause-stored c =
    c.rise.ensures.stored ∙ ap (λ (s : List ℕ). with_priorities c.args.p s c.args.roster.now)
    (assignment_rises c.args.t _ (part_of c.args.roster.now.table.threads c.args.p) (part_of c.args.roster.now.mutexes c.args.p) (part_of c.args.roster.now.table.stored c.args.p) _ c.requires.before
    (c.assigned-priority.ensures.value ∙ ap (λ (l : List (Option Thread)). assigned_of l c.args.t) c.slots_of.ensures.slots) refl)

pub returns-clause-visited : goal.returns-clause-visited
returns-clause-visited c =
    assignment_visited c.args.t _ _ (part_of c.args.roster.now.table.threads c.args.p) (part_of c.args.roster.now.mutexes c.args.p) (part_of c.args.roster.now.table.stored c.args.p) (part_of c.rise.new.roster.table.stored c.args.p) c.requires.before
    (risen_here (next_at c.args.p c.args.roster.now) _ _ c.args.t c.args.p c.args.roster.now c.rise.new.roster c.rise.ensures.stored) c.rise.ensures.visited
