use Rattle.ptk_gate_sync.proofs.Carried.{told_on, moved_on}
use Rattle.ptk_words_invariant.specs.Rests.{trylock_named}
use Rattle.ptk_gate_sync.proofs.locking.mutex_trylock.Goals as goal

pub returns-in-Ok-clause-told : goal.returns-in-Ok-clause-told
returns-in-Ok-clause-told c = told_on _ _ c.trylock_named.result (c.in-Ok.ensures.named.call trylock_named) c.trylock_named.ensures.told

pub returns-in-Ok-clause-moved : goal.returns-in-Ok-clause-moved
returns-in-Ok-clause-moved c =
    moved_on c.named_mutex.new.pools.here _ _ c.args.pools.now c.named_mutex.new.pools c.trylock_named.new.pools (c.in-Ok.ensures.named.call trylock_named) c.in-Ok.ensures.moved c.trylock_named.ensures.moved

pub returns-in-Err-clause-told : goal.returns-in-Err-clause-told
returns-in-Err-clause-told c = told_on _ _ c.refuse.result (c.in-Err.ensures.named.call trylock_named) c.refuse.ensures.told

pub returns-in-Err-clause-moved : goal.returns-in-Err-clause-moved
returns-in-Err-clause-moved c =
    moved_on c.named_mutex.new.pools.here _ _ c.args.pools.now c.named_mutex.new.pools c.refuse.new.pools (c.in-Err.ensures.named.call trylock_named) c.in-Err.ensures.moved c.refuse.ensures.moved
