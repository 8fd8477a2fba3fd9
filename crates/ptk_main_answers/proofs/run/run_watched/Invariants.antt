use Rattle.std.proofs.Common.{◌≤◌, ◌-◌}
use Rattle.ptk_words.specs.declared.TheConstants.{LAST_TICK}
use Rattle.ptk_main_answers.proofs.run.run_watched.Given as goal

abbrev pub invariant-loop-last : goal.invariant-loop-last
invariant-loop-last g l = l.last ≤ LAST_TICK

abbrev pub decreases-loop-last : goal.decreases-loop-last
decreases-loop-last g l = l.last - l.tick
