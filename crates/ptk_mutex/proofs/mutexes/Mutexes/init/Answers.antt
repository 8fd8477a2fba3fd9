use Rattle.std.proofs.Common.{sym, subst}
use Rattle.ptk_roster.specs.Rosters.{Rostered}
use Rattle.ptk_mutex.proofs.Ready.{ready_init}
use Rattle.ptk_mutex.proofs.Sound.{AreReadyAt, sound_init}
use Rattle.ptk_mutex.proofs.mutexes.Mutexes.init.Goals as goal

pub returns-clause-ready : goal.returns-clause-ready
returns-clause-ready c = λ ready.
    let a : Rostered = c.args.roster.now in
    subst (λ (r : Rostered). AreReadyAt c.args.p r) (sym c.open_free.ensures.roster) (ready_init c.args.p c.args.kind c.args.protocol c.args.is_robust a.table a.lines a.mutexes ready)

pub returns-clause-sound : goal.returns-clause-sound
returns-clause-sound c = λ sound. sound_init c.args.p c.args.kind c.args.protocol c.args.is_robust c.args.roster.now c.open_free.new.roster c.open_free.ensures.roster c.requires sound
