use Rattle.std.proofs.Common.{◌∙◌, List, ap}
use Rattle.ptk_disasm.specs.declared.symbol_lines.Symbol.{Symbol}
use Rattle.ptk_disasm.specs.Looking.{pairs}
use Rattle.ptk_disasm.specs.Tables.{last_below, symbols_of}
use Rattle.ptk_disasm.proofs.Nearest.{last_same}
use Rattle.ptk_disasm.proofs.symbols.Symbols.last_below.Goals as goal

pub returns-clause-value : goal.returns-clause-value
returns-clause-value c =
    let a = c.args.address in
    let items : List Symbol = c.self.inside.by_address.items in
    c.last_below.ensures.value ∙ ap (λ (xs : List Symbol). last_below a (pairs xs)) c.as_slice.ensures.value
    ∙ last_same a (pairs items) (symbols_of c.self.inside.text.now) c.self.invariant.1 ∙ ap (last_below a) c.self.view_is
