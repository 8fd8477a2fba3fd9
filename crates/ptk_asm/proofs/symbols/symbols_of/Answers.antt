use Rattle.std.proofs.Common.{rules, ◌∙◌, ap, ◌++◌, ◌∷◌, [], map}
use Rattle.std.proofs.lemmas.List.{append_assoc}
use Rattle.ptk_asm.specs.Symbols.{symbol_at}
use Rattle.ptk_asm.proofs.symbols.symbols_of.Goals as goal

pub loop-name-init : goal.loop-name-init
loop-name-init c = search rules

pub loop-name-preserved : goal.loop-name-preserved
loop-name-preserved c =
    let before = rw c.in-Some.ensures.steps at c.loop-name.invariant in
    let rest = map (symbol_at c.args.layout.now.lengths) c.next.new.self in
    ap (λ xs. xs ++ rest) c.in_ok-push.ensures.items
    ∙ append_assoc c.loop-name.symbols.items (c.at.result ∷ []) rest
    ∙ ap (λ x. c.loop-name.symbols.items ++ (x ∷ rest)) c.at.ensures
    ∙ before

pub returns-clause-symbols : goal.returns-clause-symbols
returns-clause-symbols c = search rules

pub returns-clause-found : goal.returns-clause-found
returns-clause-found c = c.iter-name-items.ensures.found

pub returns-clause-apart : goal.returns-clause-apart
returns-clause-apart c = c.iter-name-items.ensures.unique
