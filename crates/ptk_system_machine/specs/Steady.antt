-- Ticks over which a partition's threads stay as they are.
use Rattle.std.specs.Prelude.{◌≡◌, ℕ, ◌+◌, ◌-◌, ◌<◌, ◌≤◌, Some}
use Rattle.ptk_words.specs.declared.TheConstants.{ECALL}
use Rattle.ptk_words.specs.declared.sections.Entry.{Entry}
use Rattle.ptk_words.specs.declared.sections.Limits.{Limits}
use Rattle.ptk_words_model.specs.Windows.{OwnTicks}
use Rattle.ptk_words_model.specs.State.{Part, State}
use Rattle.ptk_words_laws.specs.Quiet.{after_ticks}
pub use Rattle.ptk_kernel.specs.Steady.{IsOfRunning, IsSteady, at_rest}

-- from a tick on and up to another the threads are and wait as in this state, no tick is lost, and each step is the running thread's, which goes on (own)
pub record AreSteady (s : Part) (states : ℕ → State) (from to : ℕ) : Type 0 where
  pub parts : (k : ℕ) → from ≤ k → k ≤ to → IsSteady s (states k).part
  pub lost : (k : ℕ) → from ≤ k → k ≤ to → (states k).account.lost ≡ (states from).account.lost
  pub steps : (k : ℕ) → from ≤ k → k < to → (states k).account.steps < (states (k + 1)).account.steps → IsOfRunning (states (k + 1)).part

-- from a tick on and up to another nothing happens behind a call (own)
abbrev pub IsStillBehindCall : (ℕ → State) → ℕ → ℕ → Type 0
IsStillBehindCall states from to = (k : ℕ) → from ≤ k → k < to → (states k).account.steps < (states (k + 1)).account.steps
    → (entry : Entry) → (states (k + 1)).part.last ≡ Some entry → entry.word ≡ ECALL → states to ≡ states (k + 1)

-- the state at each later tick, of a partition that is in this state at the first one
abbrev pub states_from : OwnTicks → Limits → ℕ → State → ℕ → State
states_from ticks limits from s k = after_ticks ticks limits from (k - from) s
