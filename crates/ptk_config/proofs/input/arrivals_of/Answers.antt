use Rattle.std.proofs.Common.{List, ◌++◌, sym, ap, ◌∙◌}
use Rattle.ptk_words.specs.declared.sections.Arrival.{Arrival}
use Rattle.ptk_config.specs.Inputs.{arrivals_at}
use Rattle.ptk_config.proofs.Inputs.{arrivals_of-more}
use Rattle.ptk_config.proofs.input.arrivals_of.Goals as goal

pub loop-input-preserved : goal.loop-input-preserved
loop-input-preserved c =
    c.in_ok-push_input.ensures ∙ (ap (λ (xs : List Arrival). xs ++ arrivals_at c.input-item.result) c.loop-input.invariant
    ∙ sym (arrivals_of-more c.args.inputs.now c.loop-input.input-index c.input-item.result c.loop-input-test.true c.input-item.is))
