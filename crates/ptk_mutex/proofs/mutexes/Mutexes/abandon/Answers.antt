use Rattle.ptk_mutex.proofs.Sound.{sound_ended}
use Rattle.ptk_mutex.proofs.mutexes.Mutexes.abandon.Goals as goal

pub returns-clause-sound : goal.returns-clause-sound
returns-clause-sound c = λ sound.
    sound_ended c.args.p c.args.t c.args.roster.now c.end_all.new.roster (record { before = c.requires.ready; moved = c.end_all.ensures.roster; after = c.end_all.ensures.ready }) sound
