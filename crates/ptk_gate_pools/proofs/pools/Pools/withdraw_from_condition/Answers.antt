use Rattle.std.specs.Prelude.{None}
use Rattle.ptk_words_model.specs.State.{Syncs}
use Rattle.ptk_words_model.specs.Condition.{after_unblock}
use Rattle.ptk_cond.specs.Tables.{syncs_by}
use Rattle.ptk_gate_pools.proofs.Changed.{tables_pooled, tables_held}
use Rattle.ptk_gate_pools.proofs.pools.Pools.withdraw_from_condition.Goals as goal

pub invariant_of-self : goal.invariant_of-self
invariant_of-self c =
    tables_pooled c.self.inside.hand (after_unblock c.args.t c.args.c None (syncs_by c.self.inside.hand c.self.inside.roster.table c.self.inside.roster.lines c.self.inside.roster.mutexes c.self.inside.roster.conditions)) c.self.inside c.withdraw.new.roster c.withdraw.new.mutexes c.self.invariant.in_hand
    c.withdraw.ensures.roster
    c.self.invariant

pub returns : goal.returns
returns c =
    let a = c.self.inside in
    let syncs : Syncs = after_unblock c.args.t c.args.c None (syncs_by a.hand a.roster.table a.roster.lines a.roster.mutexes a.roster.conditions) in
    rw (← c.self.view_is) (tables_held a.hand syncs a c.withdraw.new.roster c.withdraw.new.mutexes c.withdraw.ensures.roster c.self.invariant c.self.invariant.in_hand)
