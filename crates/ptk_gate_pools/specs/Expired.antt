-- The next expiry of a tick, and what it leaves of a partition.
use Rattle.std.specs.Prelude.{Option, Some, None}
use Rattle.ptk_words_model.specs.State.{Part}
use Rattle.ptk_words_model.specs.Withdrawal.{Expiry}
use Rattle.ptk_words_sync_invariant.specs.Expiries.{after_expiry}

-- the state after the expiry, if there is one (clock_nanosleep, pthread_mutex_timedlock, pthread_cond_timedwait)
abbrev pub after_one_expiry : Option Expiry → Part → Part
after_one_expiry None s = s
after_one_expiry (Some a) s = after_expiry a s
