-- How many stored priorities the re-locks of a broadcast read.
use Rattle.std.specs.Prelude.{ℕ, suc, ◌<◌, List}
use Rattle.std.specs.Fn.{iterate}
use Rattle.ptk_words.specs.Names.{ConditionNumber, Priority}
use Rattle.ptk_words_model.specs.State.{Syncs}
use Rattle.ptk_words_model.specs.Priority.{effective_priorities}
use Rattle.ptk_words_model.specs.Condition.{after_signal}
use Rattle.ptk_mutex.specs.Visits.{IsVisited}

-- the effective priorities after n signals (pthread_cond_signal)
abbrev pub priorities_after : ℕ → ConditionNumber → Syncs → List Priority
priorities_after n c syncs = effective_priorities (iterate (after_signal c) n syncs).threads (iterate (after_signal c) n syncs).mutexes

-- the number is that of one of the first n signals (own)
pub record IsVisitedBySignal (visited n c : ℕ) (syncs : Syncs) : Type 0 where
  pub earlier : ℕ
  pub within : earlier < n
  pub read : IsVisited visited (priorities_after earlier c syncs) (priorities_after (suc earlier) c syncs)
