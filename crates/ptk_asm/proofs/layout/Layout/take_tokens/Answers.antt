use Rattle.ptk_asm_language.specs.Places.{last_place}
use Rattle.ptk_asm_language.specs.Reading.{views, spots}
use Rattle.ptk_asm.specs.Passing.{shown_statement}
use Rattle.ptk_asm.proofs.States.{shows_statement}
use Rattle.ptk_asm.proofs.layout.Layout.take_tokens.Goals as goal

pub returns-clause-next : goal.returns-clause-next
returns-clause-next c = λ m h.
    shows_statement c.add_statement.new.self m c.args.span (last_place (spots c.args.tokens.now)) (views c.args.tokens.now) _ _ (shown_statement c.in_ok-statement.statement) c.parts_of-parts.ensures.label c.parts_of-parts.ensures.statement c.in_ok-statement.ensures.value
    (rw (← c.last_of.ensures) (c.in_ok-add_statement.ensures.next _ (c.in_ok-take_label.ensures.next m h)))
