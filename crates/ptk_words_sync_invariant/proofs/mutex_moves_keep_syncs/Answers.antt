use Rattle.std.specs.Prelude.{Some}
use Rattle.ptk_words_sync_invariant.proofs.Timed.{syncs_lock_move, syncs_trylock_move, syncs_unlock}
use Rattle.ptk_words_sync_invariant.proofs.mutex_moves_keep_syncs.Goals as goal

pub returns : goal.returns
returns c = λ interval waiters syncs t m are. record {
  lock = syncs_lock_move interval t m waiters syncs are;
  trylock = syncs_trylock_move interval t m waiters syncs are;
  unlock = syncs_unlock interval m (Some t) waiters syncs are;
}
