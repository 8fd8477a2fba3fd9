-- A partition whose running thread is chosen.
use Rattle.std.specs.Prelude.{◌≡◌, true, Some}
use Rattle.ptk_words.specs.Names.{ThreadNumber}
use Rattle.ptk_words_model.specs.State.{Part}
use Rattle.ptk_words_model.specs.Priority.{effective_priority}
use Rattle.ptk_words_model.specs.Schedule.{first_ready}
use Rattle.ptk_words_laws.specs.Quiet.{stays_before}

-- the running thread, if one runs, stays before the first of the line (XSH 2.8.4)
abbrev pub IsChosen : Part → Type 0
IsChosen s = (t : ThreadNumber) → s.running ≡ Some t → stays_before (effective_priority s.locks) t (first_ready s.locks) ≡ true
