use Rattle.std.proofs.Common.{arith, sym, ap, subst, ◌∙◌}
use Rattle.std.specs.Prelude.{List, Option}
use Rattle.ptk_words.specs.declared.threads.Thread.{Thread}
use Rattle.ptk_words.specs.Parts.{part_of}
use Rattle.ptk_words_model.specs.State.{Mutex}
use Rattle.ptk_words_model.specs.Priority.{assigned_of}
use Rattle.ptk_roster.specs.Rosters.{Rostered}
use Rattle.ptk_threads.specs.Table.{with_priority}
use Rattle.ptk_mutex.specs.Before.{IsBeforeAssignment}
use Rattle.ptk_mutex.specs.Moves.{after_assignment}
use Rattle.ptk_mutex.specs.Tables.{locks_by}
use Rattle.ptk_mutex.proofs.Raised.{assignment_before, stored_visited}
use Rattle.ptk_mutex.proofs.Steps.{thread_alone, refreshed_put}
use Rattle.ptk_mutex.proofs.locking.reassign.Goals as goal

pub raise-requires-clause-before : goal.raise-requires-clause-before
raise-requires-clause-before c =
    subst (λ (l : List (List (Option Mutex))). IsBeforeAssignment c.args.t (part_of c.update_if_used.new.self.table.threads c.args.p) (part_of l c.args.p) (part_of c.update_if_used.new.self.table.stored c.args.p)) (sym (ap (λ (r : Rostered). r.mutexes) c.update_if_used.ensures))
    (assignment_before c.args.p c.args.t c.assigned-before.result c.args.priority c.args.roster.now.table c.update_if_used.new.self.table c.args.roster.now.lines c.args.roster.now.mutexes c.requires.ready
    (c.assigned-before.ensures.value ∙ ap (λ (l : List (Option Thread)). assigned_of l c.args.t) (c.part.ensures.slots ∙ ap (λ (l : List (List (Option Thread))). part_of l c.args.p) c.threads.ensures.threads)) (omega (arith, c.if-level-before.false, c.level.ensures)) (ap (λ (r : Rostered). r.table) c.update_if_used.ensures))

pub returns-clause-visited : goal.returns-clause-visited
returns-clause-visited c = λ _.
    stored_visited c.args.p _ c.args.roster.now.table c.update_if_used.new.self.table c.raise.new.roster.table (ap (λ (r : Rostered). r.table.stored) c.update_if_used.ensures) c.raise.ensures.visited

pub returns-clause-roster : goal.returns-clause-roster
returns-clause-roster c =
    let a : Rostered = c.args.roster.now in
    let mid : Rostered = c.update_if_used.new.self in
    refreshed_put c.args.p a mid c.raise.new.roster (after_assignment c.args.t c.args.priority (locks_by c.args.p a.table a.lines a.mutexes)) c.requires.ready.part (thread_alone c.args.p c.args.t (with_priority c.args.priority) a mid c.update_if_used.ensures) c.raise.ensures.stored

pub returns-then-level-before-clause-roster : goal.returns-then-level-before-clause-roster
returns-then-level-before-clause-roster c =
    let a : Rostered = c.args.roster.now in
    let mid : Rostered = c.update_if_used.new.self in
    refreshed_put c.args.p a mid c.refresh_priorities.new.roster (after_assignment c.args.t c.args.priority (locks_by c.args.p a.table a.lines a.mutexes)) c.requires.ready.part (thread_alone c.args.p c.args.t (with_priority c.args.priority) a mid c.update_if_used.ensures) c.refresh_priorities.ensures
