use Rattle.std.proofs.Common.{◌≡◌, ◌≤◌, ◌^◌, drop, option_map}
use Rattle.ptk_asm_language.specs.Tokens.{spelled_on}
use Rattle.ptk_asm_language.specs.Reading.{capped}
use Rattle.ptk_asm_language.proofs.numbers.spelled.Given as goal

abbrev pub invariant-loop-c : goal.invariant-loop-c
invariant-loop-c l = (l.number ≤ 2 ^ 40) × (option_map capped (spelled_on l.base l.number (drop l.c-index l.digits)) ≡ option_map capped (spelled_on l.base 0 l.digits))
