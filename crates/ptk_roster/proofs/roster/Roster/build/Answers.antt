use Rattle.std.proofs.Common.{map, ◌∙◌, ap}
use Rattle.std.proofs.lemmas.List.{length-map}
use Rattle.std.specs.Prelude.{Option}
use Rattle.ptk_words.specs.Parts.{filled}
use Rattle.ptk_words_model.specs.State.{Mutex}
use Rattle.ptk_threads.specs.Table.{free_table}
use Rattle.ptk_threads.specs.Queues.{no_queues}
use Rattle.ptk_ready.proofs.Unused.{unused_built}
use Rattle.ptk_roster.specs.Rosters.{seen}
use Rattle.ptk_roster.proofs.Rosters.{built_roster}
use Rattle.ptk_roster.proofs.Opens.{built_whole, built_mutexes, built_conditions}
use Rattle.ptk_roster.proofs.roster.Roster.build.Goals as goal

pub invariant_of-result : goal.invariant_of-result
invariant_of-result c =
    built_whole 4611686018427387904 c.in_ok-line.line _ c.args.threads.now c.args.mutexes.now c.args.conditions.now _ _ c.in_ok-threads.ensures (c.in_ok-mutexes.ensures ∙ ap (λ (x : Option Mutex). map (filled x) c.args.mutexes.now) c.free.ensures) c.in_ok-conditions.ensures c.requires.same.0 c.requires.same.1 c.requires.mutexes c.requires.conditions
    (built_roster 4611686018427387904 c.in_ok-line.line c.args.threads.now
    (c.in_ok-line.ensures.empty (free_table c.args.threads.now) (length-map c.args.threads.now no_queues) (unused_built c.args.threads.now))
    (c.in_ok-line.ensures.sound (free_table c.args.threads.now) (length-map c.args.threads.now no_queues) (unused_built c.args.threads.now)))

pub returns-clause-table : goal.returns-clause-table
returns-clause-table c = ap seen c.in_ok-threads.ensures

pub returns-clause-lines : goal.returns-clause-lines
returns-clause-lines c = rw c.in_ok-threads.ensures
    (c.in_ok-line.ensures.empty (free_table c.args.threads.now) (length-map c.args.threads.now no_queues) (unused_built c.args.threads.now))

pub returns-clause-mutexes : goal.returns-clause-mutexes
returns-clause-mutexes c = built_mutexes _ c.args.mutexes.now _ (c.in_ok-mutexes.ensures ∙ ap (λ (x : Option Mutex). map (filled x) c.args.mutexes.now) c.free.ensures)

pub returns-clause-conditions : goal.returns-clause-conditions
returns-clause-conditions c = built_conditions _ c.args.conditions.now _ c.in_ok-conditions.ensures
