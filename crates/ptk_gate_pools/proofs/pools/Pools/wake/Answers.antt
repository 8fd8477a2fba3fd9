use Rattle.std.proofs.Common.{List, ◌++◌, [], ◌∷◌, ◌∙◌, ap, refl, sym}
use Rattle.std.specs.Prelude.{Option, option_and_then, slice_set}
use Rattle.std.proofs.lemmas.List.{length-set}
use Rattle.ptk_words.specs.Pools.{pool_get, pool_changed}
use Rattle.ptk_words.specs.declared.threads.Thread.{Thread}
use Rattle.ptk_words.specs.Parts.{part_of}
use Rattle.ptk_words_model.specs.Schedule.{woken_with}
use Rattle.ptk_gate_pools.proofs.Changed.{kept_pooled, wait_pooled, rows_held, again_rows}
use Rattle.ptk_gate_memory.specs.Rosters.{Rostered}
use Rattle.ptk_gate_pools.proofs.pools.Pools.wake.Goals as goal

-- it waited for no mutex
pub invariant_of-self : goal.invariant_of-self
invariant_of-self c =
    let a = c.self.inside in
    kept_pooled a.hand c.args.t (woken_with c.args.values.now) (slice_set a.roster.lines a.hand (part_of a.roster.lines a.hand ++ c.args.t ∷ [])) c.wait.result a c.rouse.new.self a.mutexes (length-set a.roster.lines a.hand _) c.rouse.ensures (λ thread. refl) (λ thread. refl)
    (c.wait.ensures ∙ ap (λ (l : List (List (Option Thread))). option_and_then (λ thread. thread.wait) (pool_get (part_of l a.hand) c.args.t)) c.threads.ensures.threads)
    (sym c.is_for_mutex-had_mutex.ensures ∙ c.if-not-had_mutex.true) c.self.invariant

-- the priorities are made again
pub invariant_of-self-2 : goal.invariant_of-self-2
invariant_of-self-2 c =
    let a = c.self.inside in
    wait_pooled a.hand c.args.t (woken_with c.args.values.now) (slice_set a.roster.lines a.hand (part_of a.roster.lines a.hand ++ c.args.t ∷ [])) a c.rouse.new.self c.refresh.new.roster c.refresh.new.self c.self.invariant.in_hand (length-set a.roster.lines a.hand _) c.rouse.ensures
    c.refresh.ensures.roster c.self.invariant

pub returns-then-not-had_mutex : goal.returns-then-not-had_mutex
returns-then-not-had_mutex c =
    let a = c.self.inside in
    rw (← c.self.view_is)
    (rows_held a.hand (pool_changed c.args.t (woken_with c.args.values.now) (part_of a.roster.table.threads a.hand)) (part_of a.roster.lines a.hand ++ c.args.t ∷ []) a c.rouse.new.self a.mutexes
    (ap (λ (r : Rostered). r.table.threads) c.rouse.ensures) (ap (λ (r : Rostered). r.lines) c.rouse.ensures) (ap (λ (r : Rostered). r.mutexes) c.rouse.ensures) (ap (λ (r : Rostered). r.conditions) c.rouse.ensures) c.self.invariant c.self.invariant.in_hand)

pub returns : goal.returns
returns c =
    let a = c.self.inside in
    rw (← c.self.view_is)
    (again_rows a.hand (pool_changed c.args.t (woken_with c.args.values.now) (part_of a.roster.table.threads a.hand)) (part_of a.roster.lines a.hand ++ c.args.t ∷ []) a c.rouse.new.self c.refresh.new.roster c.refresh.new.self
    (ap (λ (r : Rostered). r.table.threads) c.rouse.ensures) (ap (λ (r : Rostered). r.lines) c.rouse.ensures) (ap (λ (r : Rostered). r.mutexes) c.rouse.ensures) (ap (λ (r : Rostered). r.conditions) c.rouse.ensures) c.refresh.ensures.roster c.self.invariant c.self.invariant.in_hand)
