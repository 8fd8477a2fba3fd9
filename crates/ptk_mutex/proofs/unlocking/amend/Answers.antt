use Rattle.ptk_roster.specs.Rosters.{Rostered}
use Rattle.ptk_words_model.specs.State.{Locks}
use Rattle.ptk_mutex.specs.Tables.{locks_by}
use Rattle.ptk_mutex.specs.Moves.{after_change}
use Rattle.ptk_mutex.proofs.Raised.{amended_put}
use Rattle.ptk_mutex.proofs.Steps.{put_ready, locked_change}
use Rattle.ptk_mutex.proofs.unlocking.amend.Goals as goal

pub returns-clause-roster : goal.returns-clause-roster
returns-clause-roster c = amended_put c.args.change c.args.p c.args.m c.args.roster.now c.change_mutex.new.self c.requires.owner c.requires.ready c.change_mutex.ensures

pub returns-clause-ready : goal.returns-clause-ready
returns-clause-ready c =
    let a : Rostered = c.args.roster.now in
    let locks : Locks = locks_by c.args.p a.table a.lines a.mutexes in
    put_ready c.args.p a c.change_mutex.new.self (after_change c.args.change c.args.m locks) c.requires.ready.part (locked_change c.args.change c.args.m locks c.requires.quiet c.requires.ready.locked) (returns-clause-roster c)
