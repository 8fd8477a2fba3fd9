use Rattle.std.proofs.Common.{◌≡◌, ◌+◌, drop}
use Rattle.ptk_asm_language.specs.Scanning as lines
use Rattle.ptk_asm_language.proofs.lines.line_length.Given as goal

abbrev pub invariant-loop-i : goal.invariant-loop-i
invariant-loop-i l = lines.line_len l.source ≡ l.i + lines.line_len (drop l.i l.source)
