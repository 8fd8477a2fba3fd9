use Rattle.std.proofs.Common.{◌≡◌, ◌∙◌, ap, Some, refl, length}
use Rattle.ptk_words_model.specs.Priority.{thread_at}
use Rattle.ptk_threads.specs.Table.{thread_in}
use Rattle.ptk_gate_pools.specs.Held.{Held, held}
use Rattle.ptk_gate_pools.specs.Pooled.{kept_of}
use Rattle.ptk_gate_pools.proofs.Hands.{held-put}
use Rattle.ptk_gate_pools.proofs.Opened.{parts_of}
use Rattle.ptk_gate_pools.proofs.PlainRows.{in_use, row_is, row_pooled, row_put}
use Rattle.ptk_gate_pools.proofs.pools.Pools.run_row.Goals as goal

-- there is a thread, which the row moved
pub invariant_of-self : goal.invariant_of-self
invariant_of-self c =
    let found = in_use (thread_at c.args.self.now.here.locks c.args.t) c.requires.in_use in
    let number : thread_in c.self.inside.roster.table c.self.inside.hand c.args.t ≡ Some found.0 = ap (λ (pools : Held). thread_at pools.here.locks c.args.t) c.self.view_is ∙ found.1 in
    row_pooled c.self.inside.hand c.index.result c.args.t c.args.tick c.run_at.result found.0 c.self.inside c.run_at.new.memories c.run_at.new.roster c.run_at.new.last
    (
    row_is c.self.inside.hand c.index.result c.args.t c.args.tick c.run_at.result found.0 c.self.inside (kept_of c.self.inside) c.run_at.new.memories c.run_at.new.roster
    c.index_mut.result.now c.run_at.new.last refl c.self.invariant c.self.invariant.in_hand
    (c.run_at.ensures.memory found.0 number) (c.run_at.ensures.threads found.0 number) c.run_at.ensures.lines c.run_at.ensures.mutexes c.run_at.ensures.conditions (c.run_at.ensures.last found.0 number) c.index.ensures c.index_mut.ensures.value)

pub returns-clause-moved : goal.returns-clause-moved
returns-clause-moved c =
    rw (← c.self.view_is) (λ thread number.
    ap (held c.self.inside.hand) (row_put c.self.inside.hand c.index.result c.args.t c.args.tick c.run_at.result thread c.self.inside c.run_at.new.memories c.run_at.new.roster c.run_at.new.last c.index.ensures
    (
    row_is c.self.inside.hand c.index.result c.args.t c.args.tick c.run_at.result thread c.self.inside (kept_of c.self.inside) c.run_at.new.memories c.run_at.new.roster
    c.index_mut.result.now c.run_at.new.last refl c.self.invariant c.self.invariant.in_hand
    (c.run_at.ensures.memory thread number) (c.run_at.ensures.threads thread number) c.run_at.ensures.lines c.run_at.ensures.mutexes c.run_at.ensures.conditions (c.run_at.ensures.last thread number) c.index.ensures c.index_mut.ensures.value))
    ∙ held-put (length c.self.inside.limits.items) c.self.inside.hand _ (kept_of c.self.inside) (parts_of c.self.inside c.self.invariant) c.self.invariant.in_hand)
