use Rattle.std.proofs.Common.{◌≡◌, ◌+◌, ◌∷◌, ◌++◌, [], List, ℕ, Some, Option, ap, sym, ◌∙◌, arith, rules}
use Rattle.std.specs.Prelude.{map}
use Rattle.std.proofs.lemmas.List.{map_push}
use Rattle.ptk_asm_language.specs.Lines.{raw_lines, without_ending}
use Rattle.ptk_disasm.specs.declared.symbol_lines.Symbol.{Symbol}
use Rattle.ptk_disasm.specs.Tables.{with_symbol, symbol_in, table_from}
use Rattle.ptk_disasm.proofs.Read.{before, before-more}
use Rattle.ptk_disasm.proofs.table.table_in.Goals as goal

pub lines-preserved : goal.lines-preserved
lines-preserved c =
    let f : Symbol → ℕ × List ℕ = λ x. (x.address, x.name.now) in
    let n : ℕ = c.lines.number in
    let line : List ℕ = c.split_line.result.0.now in
    let now : List (ℕ × List ℕ) = map f c.lines.symbols.items in
    let s : ℕ × List ℕ = f c.in-Some.symbol in
    let later = table_from (n + 1) (raw_lines c.split_line.result.1.now) in
    let grown : map f c.add.new.symbols.items ≡ now ++ s ∷ [] = ap (map f) c.in_ok-add.ensures ∙ map_push f c.lines.symbols.items c.in-Some.symbol in
    let found : symbol_in (without_ending line) ≡ Some s = ap symbol_in (sym c.without_ending.ensures.value) ∙ sym c.in-Some.ensures in
    let stepped : table_from n (raw_lines c.lines.rest.now) ≡ with_symbol n (Some s) later =
    ap (table_from n) c.split_line.ensures.lines ∙ ap (λ (o : Option (ℕ × List ℕ)). with_symbol n o later) found in
    (omega arith, ap (λ (xs : List (ℕ × List ℕ)). before xs later) grown ∙ before-more now s n later ∙ sym (ap (before now) stepped) ∙ c.lines.invariant.1)

pub lines-init : goal.lines-init
lines-init c = search rules
