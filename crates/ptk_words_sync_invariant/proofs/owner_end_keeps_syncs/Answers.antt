use Rattle.ptk_words_sync_invariant.proofs.Timed.{syncs_owner_end, syncs_owns_none, syncs_end_same}
use Rattle.ptk_words_sync_invariant.proofs.owner_end_keeps_syncs.Goals as goal

pub returns : goal.returns
returns c = λ interval waiters syncs t running idle are. record {
  whole = syncs_owner_end interval t running waiters syncs idle are;
  owns_none = syncs_owns_none interval t running waiters syncs idle are;
  same = syncs_end_same interval t running waiters syncs idle are;
}
