-- What is true of a partition that has nothing to do.
use Rattle.std.specs.Prelude.{◌≡◌, ℕ, ◌+◌, ◌≤◌, ◌<◌}
use Rattle.ptk_words.specs.declared.sections.Limits.{Limits}
use Rattle.ptk_words_model.specs.Windows.{WindowPlan, own_ticks, IsPlan}
use Rattle.ptk_words_model.specs.declared.Spent.TheVariants.{Idle}
use Rattle.ptk_words_model.specs.State.{Part, State}
use Rattle.ptk_words_model.specs.Decision.{decision}
use Rattle.ptk_words_model.specs.Run.{next_from}
use Rattle.ptk_words_laws.specs.Quiet.{after_ticks}
use Rattle.ptk_words_laws.specs.Idle.{IsIdle, waiting_from}

-- the decision of an idle partition changes nothing, and is idle, whatever the room (own)
abbrev pub IdleIsDecided : Limits → ℕ → ℕ → ℕ → Part → Type 0
IdleIsDecided limits tick stop room s =
    IsIdle stop s → tick < stop → 1 ≤ room → decision limits tick room s ≡ record { spent = Idle; part = s }

-- ticks in a row change nothing of an idle partition but the tick of its next decision (own)
abbrev pub IdleIsTicks : WindowPlan → ℕ → Limits → ℕ → ℕ → ℕ → State → Type 0
IdleIsTicks plan p limits tick stop n s =
    IsPlan plan → IsIdle stop s.part → s.account.next ≡ next_from (own_ticks plan p) s.part.status tick → tick + n ≤ stop
    → after_ticks (own_ticks plan p) limits tick n s ≡ waiting_from (own_ticks plan p) (tick + n) s
