use Rattle.std.proofs.Common.{ap, ◌∙◌}
use Rattle.ptk_asm_language.specs.Source.{source}
use Rattle.ptk_disasm.specs.Disassembly.{names_of}
use Rattle.ptk_disasm.proofs.Named.{names-within}
use Rattle.ptk_disasm.proofs.ReadBack.{read-back}
use Rattle.ptk_disasm.proofs.disassembly.disassemble_with.Goals as goal

pub returns-clause-same : goal.returns-clause-same
returns-clause-same c =
    ap source c.in_ok-written.ensures.text
    ∙ read-back (names_of c.args.symbols.now) c.args.image.now (names-within c.args.symbols.now) c.in_ok-written.ensures.whole c.in_ok-sections_fit.ensures.ok
