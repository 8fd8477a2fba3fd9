use Rattle.ptk_roster.specs.Rosters.{Rostered}
use Rattle.ptk_words_model.specs.State.{Locks}
use Rattle.ptk_roster.specs.Changes.{mutex_changed}
use Rattle.ptk_mutex.specs.Tables.{locks_by}
use Rattle.ptk_mutex.specs.Moves.{after_change}
use Rattle.ptk_mutex.proofs.Steps.{mutex_alone, refreshed_put, put_ready, locked_change}
use Rattle.ptk_mutex.proofs.Unraised.{unraised_change, unraised_stored}
use Rattle.ptk_mutex.proofs.unlocking.alter.Goals as goal

pub refresh_after-requires-clause-plain : goal.refresh_after-requires-clause-plain
refresh_after-requires-clause-plain c = λ plain.
    let a : Rostered = c.args.roster.now in
    let b : Rostered = c.change_mutex.new.self in
    let locks : Locks = locks_by c.args.p a.table a.lines a.mutexes in
    unraised_stored c.args.p c.args.m a b (after_change c.args.change c.args.m locks) c.requires.ready (unraised_change c.args.change c.args.m locks) (mutex_alone c.args.p c.args.m (mutex_changed c.args.change) a b c.change_mutex.ensures) plain

pub returns-clause-roster : goal.returns-clause-roster
returns-clause-roster c =
    let a : Rostered = c.args.roster.now in
    let b : Rostered = c.change_mutex.new.self in
    refreshed_put c.args.p a b c.refresh_after.new.roster (after_change c.args.change c.args.m (locks_by c.args.p a.table a.lines a.mutexes)) c.requires.ready.part (mutex_alone c.args.p c.args.m (mutex_changed c.args.change) a b c.change_mutex.ensures) c.refresh_after.ensures

pub returns-clause-ready : goal.returns-clause-ready
returns-clause-ready c =
    let a : Rostered = c.args.roster.now in
    let locks : Locks = locks_by c.args.p a.table a.lines a.mutexes in
    put_ready c.args.p a c.refresh_after.new.roster (after_change c.args.change c.args.m locks) c.requires.ready.part (locked_change c.args.change c.args.m locks c.requires.quiet c.requires.ready.locked) (returns-clause-roster c)
