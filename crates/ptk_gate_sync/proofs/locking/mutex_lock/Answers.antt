use Rattle.std.specs.Prelude.{None}
use Rattle.ptk_gate_sync.proofs.Carried.{told_on, moved_on}
use Rattle.ptk_words_invariant.specs.Rests.{lock_by}
use Rattle.ptk_gate_sync.proofs.locking.mutex_lock.Goals as goal

pub returns-in-Ok-clause-told : goal.returns-in-Ok-clause-told
returns-in-Ok-clause-told c = told_on _ _ c.lock_by.result (c.in-Ok.ensures.named.call (lock_by None)) c.lock_by.ensures.told

pub returns-in-Ok-clause-moved : goal.returns-in-Ok-clause-moved
returns-in-Ok-clause-moved c =
    moved_on c.named_mutex.new.pools.here _ _ c.args.pools.now c.named_mutex.new.pools c.lock_by.new.pools (c.in-Ok.ensures.named.call (lock_by None)) c.in-Ok.ensures.moved c.lock_by.ensures.moved

pub returns-in-Err-clause-told : goal.returns-in-Err-clause-told
returns-in-Err-clause-told c = told_on _ _ c.refuse.result (c.in-Err.ensures.named.call (lock_by None)) c.refuse.ensures.told

pub returns-in-Err-clause-moved : goal.returns-in-Err-clause-moved
returns-in-Err-clause-moved c =
    moved_on c.named_mutex.new.pools.here _ _ c.args.pools.now c.named_mutex.new.pools c.refuse.new.pools (c.in-Err.ensures.named.call (lock_by None)) c.in-Err.ensures.moved c.refuse.ensures.moved
