use Rattle.std.proofs.Common.{List, ◌∙◌, ap, refl, sym}
use Rattle.std.specs.Prelude.{Option, option_and_then}
use Rattle.ptk_words.specs.Pools.{pool_get, pool_changed}
use Rattle.ptk_words.specs.declared.threads.Thread.{Thread}
use Rattle.ptk_words.proofs.Options.{none_if_not_some}
use Rattle.ptk_words.specs.Parts.{part_of}
use Rattle.ptk_threads.specs.Table.{with_wait}
use Rattle.ptk_words.specs.Threads.{mutex_of_wait}
use Rattle.ptk_gate_pools.proofs.Changed.{kept_pooled, wait_pooled, changed_held, again_held}
use Rattle.ptk_gate_memory.specs.Rosters.{Rostered}
use Rattle.ptk_gate_pools.proofs.pools.Pools.give_wait.Goals as goal

-- neither wait is for a mutex
pub invariant_of-self : goal.invariant_of-self
invariant_of-self c =
    kept_pooled c.self.inside.hand c.args.t (with_wait c.args.wait) c.self.inside.roster.lines c.wait.result c.self.inside c.update_if_used.new.self c.self.inside.mutexes refl c.update_if_used.ensures (λ thread. refl)
    (λ thread. none_if_not_some (mutex_of_wait c.args.wait) (sym c.is_for_mutex-has_mutex.ensures ∙ c.if-not-has_mutex.true))
    (c.wait.ensures ∙ ap (λ (l : List (List (Option Thread))). option_and_then (λ thread. thread.wait) (pool_get (part_of l c.self.inside.hand) c.args.t)) c.threads.ensures.threads)
    (sym c.is_for_mutex-had_mutex.ensures ∙ c.if-not-had_mutex.true) c.self.invariant

-- the priorities are made again
pub invariant_of-self-2 : goal.invariant_of-self-2
invariant_of-self-2 c =
    wait_pooled c.self.inside.hand c.args.t (with_wait c.args.wait) c.self.inside.roster.lines c.self.inside c.update_if_used.new.self c.refresh.new.roster c.refresh.new.self c.self.invariant.in_hand refl c.update_if_used.ensures c.refresh.ensures.roster
    c.self.invariant

pub returns-then-not-has_mutex : goal.returns-then-not-has_mutex
returns-then-not-has_mutex c =
    rw (← c.self.view_is) (changed_held c.self.inside.hand c.args.t (with_wait c.args.wait) c.self.inside c.update_if_used.new.self c.update_if_used.ensures c.self.invariant c.self.invariant.in_hand)

pub returns : goal.returns
returns c =
    let a = c.self.inside in
    rw (← c.self.view_is)
    (again_held a.hand (pool_changed c.args.t (with_wait c.args.wait) (part_of a.roster.table.threads a.hand)) a c.update_if_used.new.self c.refresh.new.roster c.refresh.new.self
    (ap (λ (r : Rostered). r.table.threads) c.update_if_used.ensures) (ap (λ (r : Rostered). r.lines) c.update_if_used.ensures) (ap (λ (r : Rostered). r.mutexes) c.update_if_used.ensures) (ap (λ (r : Rostered). r.conditions) c.update_if_used.ensures)
    c.refresh.ensures.roster c.self.invariant c.self.invariant.in_hand)
