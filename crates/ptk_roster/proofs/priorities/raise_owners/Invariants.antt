use Rattle.std.proofs.Common.{◌≡◌, List, take}
use Rattle.std.specs.Prelude.{Option}
use Rattle.ptk_words.specs.declared.threads.Thread.{Thread}
use Rattle.ptk_threads.specs.Table.{AreLevelsOf}
use Rattle.ptk_roster.specs.Raised.{with_ceilings}
use Rattle.ptk_roster.proofs.priorities.raise_owners.Given as goal

abbrev pub invariant-loop-slot : goal.invariant-loop-slot
invariant-loop-slot l =
    record {
      stored : l.stored ≡ with_ceilings (take l.slot-index l.mutexes) l.fn.stored;
      levels : (threads : List (Option Thread)) → AreLevelsOf threads l.fn.stored → AreLevelsOf threads l.stored;
    }
