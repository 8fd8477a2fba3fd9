use Rattle.ptk_gate_pools.specs.Held.{Held}
use Rattle.std.proofs.Common.{◌∙◌, ap}
use Rattle.std.specs.Prelude.{Some}
use Rattle.ptk_words.specs.Pools.{least_free, pool_set}
use Rattle.ptk_gate_pools.proofs.Changed.{slot_pooled, again_held}
use Rattle.ptk_gate_pools.proofs.Numbers.{created_at}
use Rattle.ptk_words.specs.Parts.{part_of}
use Rattle.ptk_threads.specs.Table.{ThreadTable}
use Rattle.ptk_gate_pools.proofs.pools.Pools.take_number.Goals as goal

pub invariant_of-self : goal.invariant_of-self
invariant_of-self c =
    slot_pooled c.self.inside.hand c.args.t c.args.thread.priority (Some c.args.thread) c.self.inside c.create.new.self c.refresh.new.roster c.refresh.new.self c.self.invariant.in_hand
    (created_at c.self.inside.hand c.args.t c.args.thread c.self.inside.roster.table c.create.new.self.table (ap (λ (pools : Held). least_free pools.here.threads) c.self.view_is ∙ c.requires.free) c.create.ensures.table)
    c.create.ensures.lines c.create.ensures.mutexes c.create.ensures.conditions c.refresh.ensures.roster
    c.self.invariant

pub returns : goal.returns
returns c =
    let a = c.self.inside in
    rw (← c.self.view_is)
    (again_held a.hand (pool_set (part_of a.roster.table.threads a.hand) c.args.t (Some c.args.thread)) a c.create.new.self c.refresh.new.roster c.refresh.new.self
    (ap (λ (t : ThreadTable). t.threads) (created_at a.hand c.args.t c.args.thread a.roster.table c.create.new.self.table (ap (λ (pools : Held). least_free pools.here.threads) c.self.view_is ∙ c.requires.free) c.create.ensures.table))
    c.create.ensures.lines c.create.ensures.mutexes c.create.ensures.conditions c.refresh.ensures.roster c.self.invariant c.self.invariant.in_hand)
