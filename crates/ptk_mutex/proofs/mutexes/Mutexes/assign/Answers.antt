use Rattle.ptk_words_model.specs.State.{Locks}
use Rattle.ptk_mutex.specs.Moves.{after_assignment}
use Rattle.ptk_mutex.specs.Tables.{locks_by}
use Rattle.ptk_mutex.proofs.Locked.{locked_assignment}
use Rattle.ptk_mutex.proofs.Steps.{put_ready}
use Rattle.ptk_roster.specs.Rosters.{Rostered}
use Rattle.ptk_mutex.proofs.Sound.{sound_assigned}
use Rattle.ptk_mutex.proofs.mutexes.Mutexes.assign.Goals as goal

pub returns-clause-ready : goal.returns-clause-ready
returns-clause-ready c =
    let a : Rostered = c.args.roster.now in
    let locks : Locks = locks_by c.args.p a.table a.lines a.mutexes in
    put_ready c.args.p a c.reassign-self.new.roster (after_assignment c.args.t c.args.priority locks) c.requires.ready.part (locked_assignment c.args.t c.args.priority locks c.requires.ready.locked) c.reassign-self.ensures.roster

pub returns-clause-sound : goal.returns-clause-sound
returns-clause-sound c = λ sound.
    sound_assigned c.args.p c.args.t c.args.priority c.args.roster.now c.reassign-self.new.roster (record { before = c.requires.ready; moved = c.reassign-self.ensures.roster; after = returns-clause-ready c }) sound
