-- Only threads of the pool lead on.
use Rattle.std.proofs.Common.{◌≡◌, ℕ, ◌<◌, List, length}
use Rattle.std.specs.Prelude.{Option, None}
use Rattle.ptk_words.specs.declared.threads.Thread.{Thread}
use Rattle.ptk_words.proofs.Pools.{get_beyond}
use Rattle.ptk_words_model.specs.State.{Mutex}
use Rattle.ptk_words_model.specs.Priority.{next_in_chain}
use Rattle.ptk_words_sync_invariant.proofs.ChainLaws.{next-free}

pub next_past : (w : ℕ) (threads : List (Option Thread)) (mutexes : List (Option Mutex)) → length threads < w → next_in_chain threads mutexes w ≡ None
next_past w threads mutexes past = next-free threads mutexes w (get_beyond w threads past)
