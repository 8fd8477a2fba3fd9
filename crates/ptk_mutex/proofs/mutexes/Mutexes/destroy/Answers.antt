use Rattle.std.proofs.Common.{sym, subst}
use Rattle.ptk_roster.specs.Rosters.{Rostered}
use Rattle.ptk_mutex.proofs.Ready.{ready_destroy}
use Rattle.ptk_mutex.proofs.Sound.{AreReadyAt, sound_destroy}
use Rattle.ptk_mutex.proofs.mutexes.Mutexes.destroy.Goals as goal

pub returns-clause-ready : goal.returns-clause-ready
returns-clause-ready c = λ unlocked ready.
    let a : Rostered = c.args.roster.now in
    subst (λ (r : Rostered). AreReadyAt c.args.p r) (sym c.close_mutex.ensures) (ready_destroy c.args.p c.args.m a.table a.lines a.mutexes c.requires.unused unlocked ready)

pub returns-clause-sound : goal.returns-clause-sound
returns-clause-sound c = λ unlocked sound. sound_destroy c.args.p c.args.m c.args.roster.now c.close_mutex.new.self c.requires.unused unlocked c.close_mutex.ensures c.requires.partition sound
