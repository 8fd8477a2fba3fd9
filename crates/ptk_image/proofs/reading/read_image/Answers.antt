use Rattle.std.proofs.lemmas.Grind.{common_steps}
use Rattle.std.proofs.Common.{rules, arith, length-drop}
use Rattle.ptk_image.proofs.Checked.{image_read_as}
use Rattle.ptk_image.proofs.reading.read_image.Goals as goal

pub returns-clause-image : goal.returns-clause-image
returns-clause-image c =
    rw c.new.ensures (
    image_read_as c.args.bytes.now c.header_word-entry.result c.header_word-text_length.result c.header_word-data_length.result c.header_word-bss.result c.in_ok-text.text.items c.in_ok-data.data.items
    (omega (arith, c.if-bytes-lt-HEADER_LENGTH.false)) (search rules) (search rules) c.header_word-entry.ensures c.header_word-text_length.ensures c.header_word-data_length.ensures c.header_word-bss.ensures
    (search rules) (grind (arith, length-drop)) (search rules) (search rules)
    (search rules) (search rules)
    )

pub returns-then-entry-ne0-clause-fault : goal.returns-then-entry-ne0-clause-fault
returns-then-entry-ne0-clause-fault c = grind (arith, common_steps)
