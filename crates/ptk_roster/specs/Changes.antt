-- What becomes of one mutex, but for its waiters.
use Rattle.std.specs.Prelude.{◌+◌, ◌-◌, ◌<◌, ◌≤◌, Option, Some, None}
use Rattle.ptk_words.specs.declared.TheConstants.{COUNT_LIMIT}
use Rattle.ptk_words.specs.declared.mutexes.Owner.TheVariants.{Free, Abandoned, OwnedBy}
use Rattle.ptk_words_model.specs.State.{Mutex}
use Rattle.ptk_roster.specs.declared.slot.Change.{Change}
use Rattle.ptk_roster.specs.declared.slot.Change.TheVariants.{Take, CountUp, CountDown, Release, Abandon, Mark}

-- the mutex with that change (own)
abbrev pub mutex_changed : Change → Mutex → Mutex
mutex_changed (Take t) m = record m { owner = OwnedBy t; count = 1 }
mutex_changed CountUp m = record m { count = m.count + 1 }
mutex_changed CountDown m = record m { count = m.count - 1 }
mutex_changed Release m = record m { owner = Free; count = 0 }
mutex_changed Abandon m = record m { owner = Abandoned }
mutex_changed (Mark soundness) m = record m { soundness = soundness }

-- the change is possible: a count stays a word (own)
abbrev pub MayChange : Change → Mutex → Type 0
MayChange (Take t) m = Unit {0}
MayChange CountUp m = m.count ≤ COUNT_LIMIT
MayChange CountDown m = 0 < m.count
MayChange Release m = Unit {0}
MayChange Abandon m = Unit {0}
MayChange (Mark soundness) m = Unit {0}

-- the change of the mutex of a number, if there is one, is possible (own)
abbrev pub SlotMayChange : Change → Option Mutex → Type 0
SlotMayChange change None = Unit {0}
SlotMayChange change (Some m) = MayChange change m

-- the change leaves the count no greater than it was, or 1 (own)
abbrev pub IsQuiet : Change → Type 0
IsQuiet (Take t) = Unit {0}
IsQuiet CountUp = ⊥
IsQuiet CountDown = Unit {0}
IsQuiet Release = Unit {0}
IsQuiet Abandon = Unit {0}
IsQuiet (Mark soundness) = Unit {0}

-- the change is not one of the owner (own)
abbrev pub KeepsOwner : Change → Type 0
KeepsOwner (Take t) = ⊥
KeepsOwner CountUp = Unit {0}
KeepsOwner CountDown = Unit {0}
KeepsOwner Release = ⊥
KeepsOwner Abandon = ⊥
KeepsOwner (Mark soundness) = Unit {0}
