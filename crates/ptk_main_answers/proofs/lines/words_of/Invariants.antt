use Rattle.std.proofs.Common.{◌<◌, length}
use Rattle.ptk_main_answers.proofs.lines.words_of.Given as goal

abbrev pub invariant-loop-entry : goal.invariant-loop-entry
invariant-loop-entry l = l.p < length l.system.config.sections
