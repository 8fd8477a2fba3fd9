use Rattle.std.proofs.Common.{◌≡◌, ℕ, suc, length, refl, ◌∙◌, sym, ap, subst, arith, add-one}
use Rattle.std.specs.Prelude.{option_and_then}
use Rattle.ptk_words.specs.Pools.{pool_get}
use Rattle.ptk_words_sync_invariant.proofs.ChainLaws.{next_bounded}
use Rattle.ptk_threads.specs.Links.{threads_of}
use Rattle.ptk_threads.specs.Table.{stored_of}
use Rattle.ptk_words_model.specs.Priority.{awaited, inheritor_of, next_in_chain, held_of}
use Rattle.ptk_threads.proofs.Slots.{length-threads_of}
use Rattle.ptk_roster.specs.Raised.{risen, with_ceilings}
use Rattle.ptk_roster.proofs.Held.{ceilings_held, read_here}
use Rattle.ptk_roster.proofs.Sweeps.{IsSwept, swept_none, swept_over, swept_more, swept_all, levels_more}
use Rattle.ptk_roster.proofs.priorities.recompute.Goals.{in-Some, in_default}
use Rattle.ptk_roster.proofs.priorities.recompute.Goals as goal

pub loop-k-init : goal.loop-k-init
loop-k-init c =
    let threads = threads_of c.args.threads.now in
    record {
      swept = swept_none (length threads) (next_in_chain threads c.args.mutexes.now) (held_of threads c.args.mutexes.now) c.raise_owners.new.stored (next_bounded threads c.args.mutexes.now)
          (c.raise_owners.ensures.stored ∙ ap (with_ceilings c.args.mutexes.now) c.put_assigned.ensures.stored ∙ ceilings_held threads c.args.mutexes.now);
      levels = c.raise_owners.ensures.levels threads c.put_assigned.ensures.levels;
    }

pub loop-k-preserved : goal.loop-k-preserved
loop-k-preserved c =
    let threads = threads_of c.args.threads.now in
    let mutexes = c.args.mutexes.now in
    let next = next_in_chain threads mutexes in
    let here : c.inheritor_from.result ≡ next (suc c.loop-k.k) = c.inheritor_from.ensures ∙ ap (λ thread. option_and_then (λ m. inheritor_of (pool_get mutexes m)) (awaited thread)) (read_here c.args.threads.now c.loop-k.k c.index-threads-k.result c.loop-k-test.true c.index-threads-k.is) in
    elim c.match-inheritor_from.branch [
      | in-Some w ↦
          (let priority : ℕ = stored_of c.loop-k.stored (suc c.loop-k.k) in
          let raised : c.match-inheritor_from.stored ≡ risen next priority (length c.args.threads.now) w.in-Some.v c.loop-k.stored = w.stored-is ∙ w.raise_chain.ensures in
          rw add-one (record {
            swept = swept_more (length threads) next (held_of threads mutexes) c.loop-k.k w.in-Some.v priority (length c.args.threads.now) c.loop-k.stored c.match-inheritor_from.stored (omega (arith, length-threads_of c.args.threads.now))
                (next_bounded threads mutexes) (sym here ∙ w.in-Some.is) refl raised c.loop-k.invariant.swept;
            levels = levels_more next threads priority (length c.args.threads.now) w.in-Some.v c.loop-k.stored c.match-inheritor_from.stored (c.loop-k.invariant.levels.greatest (suc c.loop-k.k)) raised c.loop-k.invariant.levels;
          }))
      | in_default w ↦
          rw (w.stored-is, add-one) (record {
            swept = swept_over (length threads) next (held_of threads mutexes) c.loop-k.k c.loop-k.stored (sym here ∙ w.in_default.is) c.loop-k.invariant.swept;
            levels = c.loop-k.invariant.levels;
          })
    ]

pub returns-clause-stored : goal.returns-clause-stored
returns-clause-stored c =
    let threads = threads_of c.args.threads.now in
    let n : c.loop-k.k ≡ length threads = omega (arith, c.loop-k-test.false, c.loop-k.auto.k-end, length-threads_of c.args.threads.now) in
    swept_all (length threads) (next_in_chain threads c.args.mutexes.now) (held_of threads c.args.mutexes.now) c.loop-k.stored (next_bounded threads c.args.mutexes.now)
    (subst (λ k. IsSwept (length threads) (next_in_chain threads c.args.mutexes.now) (held_of threads c.args.mutexes.now) k c.loop-k.stored) n c.loop-k.invariant.swept)
