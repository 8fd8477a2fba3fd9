use Rattle.std.proofs.Common.{◌∙◌, rules, tests}
use Rattle.std.proofs.lemmas.Iterator.{YieldsList-from_slice}
use Rattle.std.proofs.lemmas.Iterator.Search.{any_from_yields_List}
use Rattle.ptk_words_model.specs.Unwinding.{is_alive}
use Rattle.ptk_threads.specs.declared.slot.Slot.{Slot}
use Rattle.ptk_threads.proofs.Slots.{threads_any}
use Rattle.ptk_gate_threads.proofs.ends.is_any_alive.Goals as goal

pub returns : goal.returns
returns c =
    any_from_yields_List (λ (slot : Slot). is_alive slot.thread) _ _ _ c.any.ensures.ran (YieldsList-from_slice c.args.slots.now cc) (λ x b q k. search (rules, tests))
    ∙ threads_any is_alive c.args.slots.now
