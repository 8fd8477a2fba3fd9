use Rattle.std.proofs.Common.{◌≡◌, ℕ, suc, ◌<◌, true, get_or}
use Rattle.ptk_threads.specs.Links.{links_of}
use Rattle.ptk_ready.specs.Entries.{is_ready}
use Rattle.ptk_roster.proofs.levels.keeps_ready.Given as goal

abbrev pub invariant-loop-i : goal.invariant-loop-i
invariant-loop-i l = (j : ℕ) → j < l.i → is_ready (links_of l.slots) (suc j) ≡ true → get_or l.priorities j 0 ≡ get_or l.stored j 0
