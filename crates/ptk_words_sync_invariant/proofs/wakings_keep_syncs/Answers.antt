use Rattle.ptk_words_sync_invariant.proofs.Timed.{syncs_unlock, syncs_owner_end}
use Rattle.ptk_words_sync_invariant.proofs.Relocks.{syncs_signal, syncs_broadcast}
use Rattle.ptk_words_sync_invariant.proofs.wakings_keep_syncs.Goals as goal

pub returns : goal.returns
returns c = λ interval running waiters syncs. record {
  unlock = λ m are. syncs_unlock interval m running waiters syncs are;
  owner_end = λ t idle are. syncs_owner_end interval t running waiters syncs idle are;
  signal = λ c are. syncs_signal interval c running waiters syncs are;
  broadcast = λ c are. syncs_broadcast interval c running waiters syncs are;
}
