use Rattle.ptk_gate_pools.specs.Held.{Held, limits_here}
use Rattle.std.proofs.Common.{ap, sym, subst}
use Rattle.ptk_words_model.specs.Condition.{after_condition_wait}
use Rattle.ptk_cond.specs.Tables.{syncs_by, IsAwake}
use Rattle.ptk_gate_pools.proofs.Changed.{tables_pooled, tables_held}
use Rattle.ptk_gate_pools.proofs.Synced.{synced_is, awake_of}
use Rattle.ptk_gate_pools.proofs.pools.Pools.wait_on.Goals as goal

pub wait-requires-clause-ready : goal.wait-requires-clause-ready
wait-requires-clause-ready c =
    let old = c.self.invariant in
    synced_is c.self.inside.hand _ (limits_here c.args.self.now) c.args.self.now.here c.self.inside.roster.table c.self.inside.roster.lines c.self.inside.roster.mutexes c.self.inside.roster.conditions c.self.invariant.in_hand
    old.threads old.priorities old.lines old.mutexes old.conditions old.stored (ap (λ (pools : Held). pools.here.syncs) (sym c.self.view_is)) c.requires.well

pub wait-requires-clause-caller : goal.wait-requires-clause-caller
wait-requires-clause-caller c =
    subst (λ (pools : Held). IsAwake pools.here.locks c.args.t) (sym c.self.view_is) (awake_of (limits_here c.args.self.now) c.args.self.now.here c.args.t c.requires.well c.requires.runs)

pub invariant_of-self : goal.invariant_of-self
invariant_of-self c =
    tables_pooled c.self.inside.hand (after_condition_wait c.args.t c.args.c c.args.m c.args.deadline (syncs_by c.self.inside.hand c.self.inside.roster.table c.self.inside.roster.lines c.self.inside.roster.mutexes c.self.inside.roster.conditions)) c.self.inside c.wait.new.roster c.wait.new.mutexes c.self.invariant.in_hand
    c.wait.ensures.roster
    c.self.invariant

pub returns : goal.returns
returns c =
    rw (← c.self.view_is)
    (tables_held c.self.inside.hand (after_condition_wait c.args.t c.args.c c.args.m c.args.deadline (syncs_by c.self.inside.hand c.self.inside.roster.table c.self.inside.roster.lines c.self.inside.roster.mutexes c.self.inside.roster.conditions)) c.self.inside c.wait.new.roster c.wait.new.mutexes
    c.wait.ensures.roster c.self.invariant c.self.invariant.in_hand)
