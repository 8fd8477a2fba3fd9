use Rattle.std.proofs.Common.{sym, subst}
use Rattle.ptk_roster.specs.Rosters.{Rostered}
use Rattle.ptk_mutex.proofs.Unraised.{ready_freed}
use Rattle.ptk_mutex.proofs.Sound.{AreReadyAt, sound_freed}
use Rattle.ptk_mutex.proofs.mutexes.Mutexes.release_plain.Goals as goal

pub returns-clause-ready : goal.returns-clause-ready
returns-clause-ready c = λ plain ready.
    let a : Rostered = c.args.roster.now in
    subst (λ (r : Rostered). AreReadyAt c.args.p r) (sym c.change_mutex.ensures) (ready_freed c.args.p c.args.m a.table a.lines a.mutexes plain ready)

pub returns-clause-sound : goal.returns-clause-sound
returns-clause-sound c = λ plain sound. sound_freed c.args.p c.args.m c.args.roster.now c.change_mutex.new.self plain c.change_mutex.ensures c.requires sound
