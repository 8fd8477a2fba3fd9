use Rattle.std.proofs.Common.{ℕ, List, [], ◌∷◌, ◌++◌, get_or, ap, ◌∙◌}
use Rattle.std.proofs.lemmas.List.{get_or_default}
use Rattle.ptk_words.specs.declared.sections.Arrival.{Arrival}
use Rattle.ptk_config.proofs.Inputs.{map-take-more}
use Rattle.ptk_config.proofs.input.push_input.Goals as goal

pub loop-byte-preserved : goal.loop-byte-preserved
loop-byte-preserved c =
    let bytes : List ℕ = c.deref-byte-items.result.now in
    let byte : ℕ = get_or bytes c.loop-byte.byte-index 0 in
    let arrival : ℕ → Arrival = λ b. record { tick = c.new-tick.result; byte = b } in
    c.in_ok-push.ensures.items
    ∙ ap (λ (xs : List Arrival). xs ++ arrival byte ∷ []) c.loop-byte.invariant
    ∙ map-take-more arrival c.args.arrivals.now.items bytes c.loop-byte.byte-index byte c.loop-byte-test.true (get_or_default bytes c.loop-byte.byte-index 0 byte c.loop-byte-test.true)
