use Rattle.ptk_disasm.proofs.disassembly.disassemble.Goals as goal

pub returns-clause-text : goal.returns-clause-text
returns-clause-text c = rw c.new.ensures at c.disassemble_with-2.ensures.text
