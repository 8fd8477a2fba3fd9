use Rattle.ptk_gate_pools.specs.Held.{Held, limits_here}
use Rattle.std.proofs.Common.{ap, sym}
use Rattle.ptk_words_model.specs.Condition.{after_broadcast}
use Rattle.ptk_cond.specs.Tables.{syncs_by}
use Rattle.ptk_gate_pools.proofs.Changed.{tables_pooled, tables_held}
use Rattle.ptk_gate_pools.proofs.Synced.{synced_is}
use Rattle.ptk_gate_pools.proofs.pools.Pools.broadcast.Goals as goal

pub broadcast-requires : goal.broadcast-requires
broadcast-requires c =
    let old = c.self.invariant in
    record {
      ready = synced_is c.self.inside.hand _ (limits_here c.args.self.now) c.args.self.now.here c.self.inside.roster.table c.self.inside.roster.lines c.self.inside.roster.mutexes c.self.inside.roster.conditions c.self.invariant.in_hand
          old.threads old.priorities old.lines old.mutexes old.conditions old.stored (ap (λ (pools : Held). pools.here.syncs) (sym c.self.view_is)) c.requires.well;
    }

pub invariant_of-self : goal.invariant_of-self
invariant_of-self c =
    tables_pooled c.self.inside.hand (after_broadcast c.args.c (syncs_by c.self.inside.hand c.self.inside.roster.table c.self.inside.roster.lines c.self.inside.roster.mutexes c.self.inside.roster.conditions)) c.self.inside c.broadcast.new.roster c.broadcast.new.mutexes c.self.invariant.in_hand
    c.broadcast.ensures.roster
    c.self.invariant

pub returns : goal.returns
returns c =
    rw (← c.self.view_is)
    (tables_held c.self.inside.hand (after_broadcast c.args.c (syncs_by c.self.inside.hand c.self.inside.roster.table c.self.inside.roster.lines c.self.inside.roster.mutexes c.self.inside.roster.conditions)) c.self.inside c.broadcast.new.roster c.broadcast.new.mutexes
    c.broadcast.ensures.roster c.self.invariant c.self.invariant.in_hand)
