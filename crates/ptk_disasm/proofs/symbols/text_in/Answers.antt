use Rattle.ptk_disasm.proofs.SymbolTexts.{text_found, text_missing}
use Rattle.ptk_disasm.proofs.symbols.text_in.Goals as goal

pub returns-in-Ok : goal.returns-in-Ok
returns-in-Ok c = text_found c.args.name.now c.in-Ok.text.now c.in-Ok.ensures.cases.0 c.in-Ok.ensures.cases.1

pub returns-in-Err : goal.returns-in-Err
returns-in-Err c = text_missing c.args.name.now c.in-Err.ensures.cases.0
