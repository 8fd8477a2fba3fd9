use Rattle.std.proofs.Common.{sym, ◌∙◌}
use Rattle.ptk_words_model.specs.Steps.{mutex_named}
use Rattle.ptk_words_invariant.specs.Rests.{timedlock_named}
use Rattle.ptk_gate_sync.proofs.Carried.{told_on, moved_on}
use Rattle.ptk_gate_sync.proofs.Namings.{readable_within}
use Rattle.ptk_gate_sync.proofs.locking.mutex_timedlock.Goals as goal

pub returns-in-Ok-clause-told : goal.returns-in-Ok-clause-told
returns-in-Ok-clause-told c =
    told_on _ _ c.timedlock_named.result
    (readable_within c.args.i.now c.args.pools.now.here (mutex_named c.args.i.now.a0 timedlock_named) (sym c.is_pointer.ensures ∙ c.if-not-is_pointer.false) ∙ c.in-Ok.ensures.named.call timedlock_named) c.timedlock_named.ensures.told

pub returns-in-Ok-clause-moved : goal.returns-in-Ok-clause-moved
returns-in-Ok-clause-moved c =
    moved_on c.named_mutex.new.pools.here _ _ c.args.pools.now c.named_mutex.new.pools c.timedlock_named.new.pools
    (readable_within c.args.i.now c.args.pools.now.here (mutex_named c.args.i.now.a0 timedlock_named) (sym c.is_pointer.ensures ∙ c.if-not-is_pointer.false) ∙ c.in-Ok.ensures.named.call timedlock_named)
    c.in-Ok.ensures.moved c.timedlock_named.ensures.moved

pub returns-in-Err-clause-told : goal.returns-in-Err-clause-told
returns-in-Err-clause-told c =
    told_on _ _ c.refuse-in-Err.result
    (readable_within c.args.i.now c.args.pools.now.here (mutex_named c.args.i.now.a0 timedlock_named) (sym c.is_pointer.ensures ∙ c.if-not-is_pointer.false) ∙ c.in-Err.ensures.named.call timedlock_named) c.refuse-in-Err.ensures.told

pub returns-in-Err-clause-moved : goal.returns-in-Err-clause-moved
returns-in-Err-clause-moved c =
    moved_on c.named_mutex.new.pools.here _ _ c.args.pools.now c.named_mutex.new.pools c.refuse-in-Err.new.pools
    (readable_within c.args.i.now c.args.pools.now.here (mutex_named c.args.i.now.a0 timedlock_named) (sym c.is_pointer.ensures ∙ c.if-not-is_pointer.false) ∙ c.in-Err.ensures.named.call timedlock_named)
    c.in-Err.ensures.moved c.refuse-in-Err.ensures.moved
