use Rattle.std.proofs.Common.{◌≡◌, ◌<◌, suc, length, ◌∙◌, sym, ap, subst, arith}
use Rattle.std.specs.Prelude.{IsSome, option_map, unwrap_or}
use Rattle.ptk_words.specs.Pools.{pool_get}
use Rattle.ptk_words.specs.declared.threads.Thread.{Thread}
use Rattle.ptk_threads.specs.Links.{threads_of}
use Rattle.ptk_threads.proofs.Slots.{length-threads_of}
use Rattle.ptk_roster.proofs.Held.{assigned_none, assigned_more, assigned_all, assigned_levels, read_here}
use Rattle.ptk_roster.proofs.priorities.put_assigned.Goals as goal

pub loop-k-init : goal.loop-k-init
loop-k-init c = assigned_none (threads_of c.args.threads.now) c.args.stored.now (c.requires.same ∙ sym (length-threads_of c.args.threads.now))

pub loop-k-preserved : goal.loop-k-preserved
loop-k-preserved c =
    let here : c.index-threads-k.result.thread ≡ pool_get (threads_of c.args.threads.now) (suc c.loop-k.k) = read_here c.args.threads.now c.loop-k.k c.index-threads-k.result c.loop-k-test.true c.index-threads-k.is in
    assigned_more (threads_of c.args.threads.now) c.loop-k.k c.level_at.result c.loop-k.stored
    (omega (arith, c.loop-k-test.true, length-threads_of c.args.threads.now))
    (c.level_at.ensures.value ∙ ap (λ o. unwrap_or (option_map (λ (thread : Thread). thread.priority) o) 0) here)
    c.level_at.ensures.in_range
    (subst (λ o. IsSome o → 0 < c.level_at.result) here c.level_at.ensures.positive)
    c.loop-k.invariant

pub returns-clause-stored : goal.returns-clause-stored
returns-clause-stored c =
    let n : c.loop-k.k ≡ length c.args.threads.now = omega arith in
    assigned_all (threads_of c.args.threads.now) c.loop-k.k c.loop-k.stored (n ∙ sym (length-threads_of c.args.threads.now)) c.loop-k.invariant

pub returns-clause-levels : goal.returns-clause-levels
returns-clause-levels c =
    let n : c.loop-k.k ≡ length c.args.threads.now = omega arith in
    assigned_levels (threads_of c.args.threads.now) c.loop-k.k c.loop-k.stored (n ∙ sym (length-threads_of c.args.threads.now)) c.loop-k.invariant
