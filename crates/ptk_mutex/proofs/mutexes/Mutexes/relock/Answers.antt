use Rattle.std.proofs.Common.{◌∙◌, ap}
use Rattle.ptk_words_model.specs.declared.LockMove.{LockMove}
use Rattle.ptk_words_model.specs.State.{Locks}
use Rattle.ptk_words_model.specs.Mutex.{mutex_at, relock_move, after_relock, after_relock_move}
use Rattle.ptk_mutex.specs.Tables.{locks_by, put_locks}
use Rattle.ptk_mutex.proofs.Steps.{put_ready, locked_relock}
use Rattle.ptk_roster.specs.Rosters.{Rostered}
use Rattle.ptk_mutex.proofs.Sound.{sound_relock}
use Rattle.ptk_mutex.proofs.WokenMoves.{woken_relock}
use Rattle.ptk_mutex.proofs.mutexes.Mutexes.relock.Goals as goal

pub returns-clause-roster : goal.returns-clause-roster
returns-clause-roster c =
    let a : Rostered = c.args.roster.now in
    c.make_relock-self.ensures.roster ∙ ap (λ (made : LockMove). put_locks c.args.p (after_relock_move made c.args.t c.args.m c.args.reply (locks_by c.args.p a.table a.lines a.mutexes)) a) c.relock_move-made.ensures

pub returns-clause-ready : goal.returns-clause-ready
returns-clause-ready c =
    let a : Rostered = c.args.roster.now in
    let locks : Locks = locks_by c.args.p a.table a.lines a.mutexes in
    put_ready c.args.p a c.make_relock-self.new.roster (after_relock c.args.t c.args.m c.args.reply locks) c.requires.ready.part
    (locked_relock (relock_move c.args.t (mutex_at locks c.args.m)) c.args.t c.args.m c.args.reply locks c.requires.countable c.requires.caller c.requires.ready.locked) (returns-clause-roster c)

pub returns-clause-sound : goal.returns-clause-sound
returns-clause-sound c = λ sound.
    sound_relock c.args.p c.args.t c.args.m c.args.reply c.args.roster.now c.make_relock-self.new.roster c.requires.free
    (record { before = c.requires.ready; moved = returns-clause-roster c; after = returns-clause-ready c }) sound

pub returns-clause-woken : goal.returns-clause-woken
returns-clause-woken c = λ waits.
    c.woken_by-woken.ensures
    ∙ woken_relock c.relock_move-made.result c.args.p c.args.t c.args.m c.args.reply c.args.roster.now c.make_relock-self.new.roster c.requires.ready.part.of_threads waits c.make_relock-self.ensures.roster
