use Rattle.ptk_words_sync_invariant.proofs.Timeouts.{syncs_expiries}
use Rattle.ptk_words_sync_invariant.proofs.expiries_keep_syncs.Goals as goal

pub returns : goal.returns
returns c = λ interval s tick are. syncs_expiries interval tick s are
