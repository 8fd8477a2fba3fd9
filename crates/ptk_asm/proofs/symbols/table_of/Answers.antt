use Rattle.std.proofs.Common.{rules, subst, ap, ◌∙◌}
use Rattle.std.specs.Prelude.{IsPermutation, flat_map}
use Rattle.std.proofs.lemmas.Result.{IfOk-weaker}
use Rattle.std.proofs.lemmas.List.Sorted.{answers_always}
use Rattle.ptk_asm.specs.Symbols.{symbol_line}
use Rattle.ptk_asm.proofs.symbols.table_of.Goals as goal

pub returns-clause-table : goal.returns-clause-table
returns-clause-table c =
    let rows = c.sort_by_key.new.self.items in
    let same = subst (λ xs. IsPermutation xs rows) c.in_ok-symbols.ensures.symbols c.sort_by_key.ensures.permutation in
    let order = c.in_ok-sort_by_key.ensures.sorted (λ s. (s.address, s.name)) (answers_always _ _ _ (λ f a r g h. search rules)) in
    IfOk-weaker c.text_of.result _ _ (λ table is. (rows, same, order, is ∙ ap (flat_map symbol_line) c.deref.ensures.value)) c.text_of.ensures

pub returns-clause-found : goal.returns-clause-found
returns-clause-found c = IfOk-weaker c.text_of.result _ _ (λ table is. c.in_ok-symbols.ensures.found) c.text_of.ensures

pub returns-clause-apart : goal.returns-clause-apart
returns-clause-apart c = IfOk-weaker c.text_of.result _ _ (λ table is. c.in_ok-symbols.ensures.apart) c.text_of.ensures
