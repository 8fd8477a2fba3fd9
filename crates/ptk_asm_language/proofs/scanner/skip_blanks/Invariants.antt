use Rattle.std.proofs.Common.{◌≡◌, ◌≤◌, length}
use Rattle.ptk_asm_language.specs.Scanning.{after_blanks}
use Rattle.ptk_asm_language.proofs.scanner.skip_blanks.Given as goal

abbrev pub invariant-loop-rest : goal.invariant-loop-rest
invariant-loop-rest l = (after_blanks l.rest ≡ after_blanks l.line) × (length l.rest ≤ length l.line)

abbrev pub decreases-loop-rest : goal.decreases-loop-rest
decreases-loop-rest l = length l.rest
