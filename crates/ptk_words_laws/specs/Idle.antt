-- A partition that has nothing to do, and what ticks in a row do to it.
use Rattle.std.specs.Prelude.{◌≡◌, ℕ, ◌<◌, true, [], None}
use Rattle.ptk_words.specs.Names.{Tick}
use Rattle.ptk_words_model.specs.Windows.{OwnTicks}
use Rattle.ptk_words_model.specs.State.{Part, State}
use Rattle.ptk_words_model.specs.Withdrawal.{due}
use Rattle.ptk_words_model.specs.Console.{arriving}
use Rattle.ptk_words_model.specs.Run.{next_from}
use Rattle.ptk_words.specs.Faults.{is_active}

-- no thread runs and none is ready; up to the tick stop no input comes and no deadline is due (own)
pub record IsIdle (stop : ℕ) (s : Part) : Type 0 where
  pub active : is_active s.status ≡ true
  pub running : s.running ≡ None
  pub line : s.line ≡ []
  pub none_comes : (k : ℕ) → k < stop → arriving k s.console ≡ []
  pub none_expires : (k : ℕ) → k < stop → due k s ≡ []

-- the state with its next decision at the first own tick from this one on
abbrev pub waiting_from : OwnTicks → Tick → State → State
waiting_from ticks tick s = record s { account = record (s.account) { next = next_from ticks s.part.status tick } }
