use Rattle.ptk_mutex.proofs.Moved.{sole_may}
use Rattle.ptk_mutex.proofs.unlocking.choose.Goals as goal

pub returns-in-OnlyMember-clause-may : goal.returns-in-OnlyMember-clause-may
returns-in-OnlyMember-clause-may c =
    sole_may c.args.p c.args.m c.in-OnlyMember.t c.few_mutex_waiters.result c.args.roster.now.table c.args.roster.now.lines c.args.roster.now.mutexes c.requires.ready c.few_mutex_waiters.ensures c.in-OnlyMember.is
