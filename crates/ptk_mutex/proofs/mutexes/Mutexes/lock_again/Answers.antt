use Rattle.std.proofs.Common.{refl, ◌∙◌, ap}
use Rattle.ptk_words.specs.declared.threads.Wait.TheVariants.{RelockWait}
use Rattle.ptk_words_model.specs.declared.LockMove.{LockMove}
use Rattle.ptk_words_model.specs.State.{Locks}
use Rattle.ptk_words_model.specs.Mutex.{mutex_at, relock_move, after_move}
use Rattle.ptk_mutex.specs.Tables.{locks_by, put_locks}
use Rattle.ptk_mutex.proofs.Steps.{locked_move, put_ready}
use Rattle.ptk_roster.specs.Rosters.{Rostered}
use Rattle.ptk_mutex.proofs.Apart.{relock_owned}
use Rattle.ptk_mutex.proofs.Sound.{sound_made}
use Rattle.ptk_mutex.proofs.mutexes.Mutexes.lock_again.Goals as goal

pub returns-clause-roster : goal.returns-clause-roster
returns-clause-roster c =
    let a : Rostered = c.args.roster.now in
    c.make-self.ensures.roster ∙ ap (λ (made : LockMove). put_locks c.args.p (after_move made c.args.t c.args.m (RelockWait c.args.m c.args.reply) (locks_by c.args.p a.table a.lines a.mutexes)) a) c.relock_move-made.ensures

pub returns-clause-ready : goal.returns-clause-ready
returns-clause-ready c =
    let a : Rostered = c.args.roster.now in
    let locks : Locks = locks_by c.args.p a.table a.lines a.mutexes in
    put_ready c.args.p a c.make-self.new.roster (after_move (relock_move c.args.t (mutex_at locks c.args.m)) c.args.t c.args.m (RelockWait c.args.m c.args.reply) locks) c.requires.ready.part
    (locked_move (relock_move c.args.t (mutex_at locks c.args.m)) c.args.t c.args.m (RelockWait c.args.m c.args.reply) locks c.requires.countable refl c.requires.caller c.requires.ready.locked) (returns-clause-roster c)

pub returns-clause-sound : goal.returns-clause-sound
returns-clause-sound c = λ sound.
    let a : Rostered = c.args.roster.now in
    let locks : Locks = locks_by c.args.p a.table a.lines a.mutexes in
    sound_made (relock_move c.args.t (mutex_at locks c.args.m)) c.args.p c.args.t c.args.m (RelockWait c.args.m c.args.reply) a c.make-self.new.roster (relock_owned c.args.t (mutex_at locks c.args.m)) c.requires.free
    (record { before = c.requires.ready; moved = returns-clause-roster c; after = returns-clause-ready c }) sound
