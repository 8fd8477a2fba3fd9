use Rattle.std.proofs.Common.{sym, subst}
use Rattle.ptk_mutex.specs.SyncRosters.{Rostered}
use Rattle.ptk_mutex.proofs.Sound.{AreSyncedAt}
use Rattle.ptk_cond.proofs.Fresh.{synced_init, sound_init}
use Rattle.ptk_cond.proofs.conditions.init.Goals as goal

pub returns-clause-ready : goal.returns-clause-ready
returns-clause-ready c = λ synced.
    let a : Rostered = c.args.roster.now in
    subst (λ (r : Rostered). AreSyncedAt c.args.p r) (sym c.open_free.ensures.roster) (synced_init c.args.p a.table a.lines a.mutexes a.conditions synced)

pub returns-clause-sound : goal.returns-clause-sound
returns-clause-sound c = λ sound. sound_init c.args.p c.args.roster.now c.open_free.new.roster c.open_free.ensures.roster c.requires sound
