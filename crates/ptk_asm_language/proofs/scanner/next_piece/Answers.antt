use Rattle.std.proofs.Common.{arith, sym, ◌∙◌}
use Rattle.std.proofs.lemmas.Grind.{common_steps}
use Rattle.ptk_asm_language.proofs.Pieces.{pieces-run, pieces-mark, pieces-none}
use Rattle.ptk_asm_language.proofs.PlaceList.{behind-run, behind-mark}
use Rattle.ptk_asm_language.proofs.scanner.next_piece.Goals as goal

pub returns-then-begins_run-clause-some : goal.returns-then-begins_run-clause-some
returns-then-begins_run-clause-some c =
    rw (c.split_at.ensures.front, c.split_at.ensures.back) (pieces-run _ _ _ c.skip_blanks-rest.ensures.value (omega arith) (sym c.begins_run.ensures ∙ c.if-begins_run.true) (grind (arith, common_steps, c.run_length.ensures.value)))

pub returns-clause-some : goal.returns-clause-some
returns-clause-some c =
    rw (c.split_at-2.ensures.front, c.split_at-2.ensures.back) (pieces-mark _ _ c.skip_blanks-rest.ensures.value (omega arith) (sym c.begins_run.ensures ∙ c.if-begins_run.false))

pub returns-then-is_empty-clause-none : goal.returns-then-is_empty-clause-none
returns-then-is_empty-clause-none c = pieces-none _ _ c.skip_blanks-rest.ensures.value (grind (arith, common_steps))

pub returns-then-begins_run-clause-behind : goal.returns-then-begins_run-clause-behind
returns-then-begins_run-clause-behind c =
    rw c.split_at.ensures.back (behind-run _ _ _ c.skip_blanks-rest.ensures.value (omega arith) (sym c.begins_run.ensures ∙ c.if-begins_run.true) (grind (arith, common_steps, c.run_length.ensures.value)))

pub returns-clause-behind : goal.returns-clause-behind
returns-clause-behind c =
    rw c.split_at-2.ensures.back (behind-mark _ _ c.skip_blanks-rest.ensures.value (omega arith) (sym c.begins_run.ensures ∙ c.if-begins_run.false))
