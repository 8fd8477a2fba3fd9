use Rattle.std.proofs.Common.{◌∙◌, ap, sym, subst}
use Rattle.ptk_gate_pools.specs.Kept.{Kept, AreStored, AreQueued}
use Rattle.ptk_gate_pools.specs.Pooled.{kept_of}
use Rattle.ptk_gate_pools.proofs.Opened.{whole}
use Rattle.ptk_gate_pools.proofs.pools.Pools.threads.Goals as goal

pub returns-clause-threads : goal.returns-clause-threads
returns-clause-threads c = c.threads.ensures.threads ∙ ap (λ (kept : Kept). kept.threads) (whole c.self.inside c.args.self.now c.self.view_is)

pub returns-clause-stored : goal.returns-clause-stored
returns-clause-stored c =
    let a = c.self.inside in
    subst (λ (kept : Kept). AreStored c.threads.result.now.stored kept.threads kept.mutexes) (whole a c.args.self.now c.self.view_is)
    (subst (λ stored. AreStored stored a.roster.table.threads a.roster.mutexes) (sym c.threads.ensures.stored) c.self.invariant.stored)

pub returns-clause-queues : goal.returns-clause-queues
returns-clause-queues c =
    let a = c.self.inside in
    subst (λ (kept : Kept). AreQueued c.threads.result.now.stored c.threads.result.now.queues kept) (whole a c.args.self.now c.self.view_is)
    (subst (λ stored. AreQueued stored c.threads.result.now.queues (kept_of a)) (sym c.threads.ensures.stored) c.threads.ensures.queues.each)
