use Rattle.std.proofs.Common.{◌≡◌, ◌≤◌, length}
use Rattle.ptk_asm_language.specs.Places.{behind_character}
use Rattle.ptk_asm_language.proofs.scanner.skip_character.Given as goal

abbrev pub invariant-loop-rest : goal.invariant-loop-rest
invariant-loop-rest l = (behind_character l.rest ≡ behind_character l.line) × (length l.rest ≤ length l.line)

abbrev pub decreases-loop-rest : goal.decreases-loop-rest
decreases-loop-rest l = length l.rest
