use Rattle.std.proofs.Common.{sym, subst}
use Rattle.ptk_mutex.specs.SyncRosters.{Rostered}
use Rattle.ptk_mutex.proofs.Sound.{AreSyncedAt}
use Rattle.ptk_cond.proofs.Fresh.{synced_destroy, sound_destroy}
use Rattle.ptk_cond.proofs.conditions.destroy.Goals as goal

pub returns-clause-ready : goal.returns-clause-ready
returns-clause-ready c = λ synced.
    let a : Rostered = c.args.roster.now in
    subst (λ (r : Rostered). AreSyncedAt c.args.p r) (sym c.close_condition.ensures) (synced_destroy c.args.p c.args.c a.table a.lines a.mutexes a.conditions c.requires.unused synced)

pub returns-clause-sound : goal.returns-clause-sound
returns-clause-sound c = λ sound. sound_destroy c.args.p c.args.c c.args.roster.now c.close_condition.new.self c.requires.unused c.close_condition.ensures c.requires.partition sound
