use Rattle.std.proofs.Common.{◌≡◌, ◌∙◌, List, ℕ, Some, true, ap, sym, ◌-◌, length, take, drop}
use Rattle.std.specs.List.{list_all}
use Rattle.std.proofs.lemmas.List.{take_rest}
use Rattle.ptk_disasm.specs.Tables.{is_mark, is_visible, address_behind}
use Rattle.ptk_disasm.proofs.Read.{symbol-found}
use Rattle.ptk_disasm.proofs.symbol_lines.symbol_in.Goals as goal

pub returns : goal.returns
returns c =
    let line : List ℕ = c.args.line.now in
    let name : take (length line - 11) (drop 11 line) ≡ drop 11 line = take_rest line 11 in
    let marked : is_mark (take 3 (drop 8 line)) ≡ true = cc (c.is_mark.ensures, c.if-not-is_mark.false) in
    let shown : list_all is_visible (take (length line - 11) (drop 11 line)) ≡ true = cc (c.are_visible.ensures, c.if-not-are_visible.false) in
    let visible : list_all is_visible (drop 11 line) ≡ true = cc in
    let address : address_behind 0 (take 8 line) ≡ Some c.in_ok-address.address = cc (c.address_of.ensures, c.in_ok-address.was) in
    ap (λ (ns : List ℕ). Some (c.in_ok-address.address, ns)) name ∙ sym (symbol-found line c.in_ok-address.address c.if-line-le-BEFORE_NAME.false marked visible address)
