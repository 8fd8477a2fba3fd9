use Rattle.std.specs.Prelude.{Some}
use Rattle.ptk_words_sync_invariant.proofs.Timed.{syncs_timed_move}
use Rattle.ptk_words_sync_invariant.proofs.ConditionWaits.{syncs_sleep, syncs_condition_wait}
use Rattle.ptk_words_sync_invariant.proofs.waits_keep_syncs.Goals as goal

pub returns : goal.returns
returns c = λ interval waiters syncs. record {
  timed = λ t m tick deadline time are. record {
    sleep = syncs_sleep interval t deadline waiters syncs are;
    lock = syncs_timed_move interval t m time tick (Some deadline) waiters syncs are;
  };
  condition = λ t c m deadline own used are. syncs_condition_wait interval t c m deadline waiters syncs own used are;
}
