use Rattle.ptk_words.specs.declared.mutexes.Soundness.TheVariants.{Consistent}
use Rattle.ptk_mutex.proofs.Sound.{sound_marked}
use Rattle.ptk_mutex.proofs.mutexes.Mutexes.consistent.Goals as goal

pub returns-clause-sound : goal.returns-clause-sound
returns-clause-sound c = λ sound.
    sound_marked Consistent c.args.p c.args.m c.args.roster.now c.amend.new.roster (record { before = c.requires.ready; moved = c.amend.ensures.roster; after = c.amend.ensures.ready }) sound
