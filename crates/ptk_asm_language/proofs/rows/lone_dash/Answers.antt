use Rattle.std.proofs.Common.{refl}
use Rattle.ptk_rv32i_code.specs.Coding as coding
use Rattle.ptk_asm_language.specs.Statements.{directive, short_form, computing_form, moving_form, called, numbered}
use Rattle.ptk_asm_language.specs.Tokens.{is_digit, is_letter, is_first, is_run, is_blank, is_mark, digit, digit_of}
use Rattle.ptk_asm_language.specs.Places.{is_continuation}
use Rattle.ptk_asm_language.proofs.rows.lone_dash.Goals as goal

pub returns : goal.returns
unfolding directive short_form computing_form moving_form called numbered is_digit is_letter is_first is_run is_blank is_mark is_continuation digit digit_of coding.u_coded coding.i_coded coding.j_coded
returns c = refl
