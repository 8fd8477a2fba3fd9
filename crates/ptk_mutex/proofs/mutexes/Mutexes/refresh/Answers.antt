use Rattle.ptk_mutex.proofs.Sound.{sound_refreshed}
use Rattle.ptk_mutex.proofs.mutexes.Mutexes.refresh.Goals as goal

pub returns-clause-sound : goal.returns-clause-sound
returns-clause-sound c = λ sound. sound_refreshed c.args.p c.args.roster.now c.refresh_priorities.new.roster c.requires c.refresh_priorities.ensures sound
