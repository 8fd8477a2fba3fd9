use Rattle.std.proofs.Common.{◌≡◌, ◌<◌, ℕ, false}
use Rattle.ptk_main_runs.specs.World.{section_at}
use Rattle.ptk_main_answers.specs.Images.{is_refused}
use Rattle.ptk_main_answers.proofs.check.first_refused.Given as goal

abbrev pub invariant-loop-i : goal.invariant-loop-i
invariant-loop-i l = (q : ℕ) → q < l.i → is_refused l.system.files (section_at l.system.config q) ≡ false
