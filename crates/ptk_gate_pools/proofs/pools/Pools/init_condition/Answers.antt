use Rattle.std.proofs.Common.{◌≡◌, List, [], ◌∙◌, ap, refl}
use Rattle.std.specs.Prelude.{Option, Some}
use Rattle.ptk_words.specs.Pools.{least_free, pool_set}
use Rattle.ptk_words.specs.Parts.{part_of}
use Rattle.ptk_words_model.specs.State.{Condition}
use Rattle.ptk_gate_memory.specs.Waiters.{condition_of}
use Rattle.ptk_cond.specs.Pool.{with_new_condition}
use Rattle.ptk_gate_pools.specs.Held.{Held}
use Rattle.ptk_gate_pools.proofs.Conditional.{condition_opened}
use Rattle.ptk_gate_pools.proofs.Changed.{conditions_pooled, conditions_held}
use Rattle.ptk_gate_pools.proofs.pools.Pools.init_condition.Goals as goal

pub invariant_of-self : goal.invariant_of-self
invariant_of-self c =
    let a = c.self.inside in
    conditions_pooled a.hand (with_new_condition (part_of a.roster.conditions a.hand)) a c.init.new.roster c.init.ensures.roster c.self.invariant

pub returns : goal.returns
returns c =
    let a = c.self.inside in
    let free : least_free (part_of a.roster.conditions a.hand) ≡ Some c.args.c = ap (λ (pools : Held). least_free pools.here.conditions) c.self.view_is ∙ c.requires.free in
    rw (← c.self.view_is)
    (conditions_held a.hand (pool_set (part_of a.roster.conditions a.hand) c.args.c (Some (condition_of []))) a c.init.new.roster
    (c.init.ensures.roster ∙ ap (λ (l : List (List (Option Condition))). record a.roster { conditions = l }) (condition_opened a.hand c.args.c a.roster.conditions _ free refl))
    c.self.invariant c.self.invariant.in_hand)
