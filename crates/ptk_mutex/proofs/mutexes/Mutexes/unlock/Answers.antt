use Rattle.ptk_mutex.proofs.Sound.{sound_unlock}
use Rattle.ptk_mutex.proofs.mutexes.Mutexes.unlock.Goals as goal

pub returns-clause-sound : goal.returns-clause-sound
returns-clause-sound c = λ sound.
    sound_unlock c.args.p c.args.m c.args.roster.now c.unlock_once.new.roster (record { before = c.requires.ready; moved = c.unlock_once.ensures.roster; after = c.unlock_once.ensures.ready }) sound
