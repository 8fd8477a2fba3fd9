-- A partition that is prepared for a decision: arrivals, expiries and the choice are made, its step is still to come.
use Rattle.std.specs.Prelude.{◌≡◌, ℕ, ◌≤◌, ◌<◌, Some}
use Rattle.ptk_words.specs.Names.{Tick}
use Rattle.ptk_words.specs.declared.sections.Limits.{Limits}
use Rattle.ptk_words.specs.declared.threads.Thread.{Thread}
use Rattle.ptk_words_model.specs.Windows.{OwnTicks}
use Rattle.ptk_words_model.specs.State.{Part, State}
use Rattle.ptk_words_model.specs.Decision.{ready_at}
use Rattle.ptk_words_laws.specs.Quiet.{IsQuiet, after_ticks}

-- the state after the arrivals, the expiries and the choice of a tick, before the step of its decision (own)
abbrev pub prepared : Limits → Tick → State → State
prepared limits tick s = record s { part = ready_at limits tick s.part }

-- a quiet state is prepared: arrivals, expiries and the choice of the tick change nothing of it (own)
abbrev pub QuietIsPrepared : Limits → ℕ → ℕ → ℕ → Thread → Part → Type 0
QuietIsPrepared limits tick stop t thread s = IsQuiet limits tick stop t thread s → tick < stop → ready_at limits tick s ≡ s

-- ticks that begin with a decision lead from the state that is prepared for it to where they lead from the state before, where a second preparation changes nothing: of that state the decision alone reads the part (own)
abbrev pub PreparedGoesOn : OwnTicks → Limits → ℕ → ℕ → ℕ → State → Type 0
PreparedGoesOn ticks limits tick end n s =
    ready_at limits tick (ready_at limits tick s.part) ≡ ready_at limits tick s.part → s.account.next ≡ Some tick → ticks.end_at tick ≡ Some end → 1 ≤ n
    → after_ticks ticks limits tick n (prepared limits tick s) ≡ after_ticks ticks limits tick n s
