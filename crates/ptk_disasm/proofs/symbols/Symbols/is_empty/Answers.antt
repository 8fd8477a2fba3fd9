use Rattle.std.proofs.Common.{◌∙◌, List, ap, sym}
use Rattle.ptk_disasm.specs.declared.symbol_lines.Symbol.{Symbol}
use Rattle.ptk_disasm.specs.Looking.{pairs}
use Rattle.ptk_disasm.specs.Tables.{symbols_of}
use Rattle.ptk_disasm.proofs.Nearest.{none_same}
use Rattle.ptk_disasm.proofs.Places.{none_of, none_to}
use Rattle.ptk_disasm.proofs.symbols.Symbols.is_empty.Goals as goal

pub returns : goal.returns
returns c =
    let items : List Symbol = c.self.inside.by_address.items in
    let table = symbols_of c.self.inside.text.now in
    let kept = ap pairs c.as_slice.ensures.value in (
      λ none. sym c.self.view_is ∙ none_same (pairs items) table c.self.invariant.1 (sym kept ∙ none_of c.as_slice.result.now (sym c.is_empty.ensures ∙ none)),
      λ none. c.is_empty.ensures ∙ none_to c.as_slice.result.now (kept ∙ none_same table (pairs items) (λ u. sym (c.self.invariant.1 u)) (c.self.view_is ∙ none)),
    )
