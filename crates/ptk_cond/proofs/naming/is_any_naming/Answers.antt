use Rattle.std.proofs.Common.{◌∙◌, rules, tests}
use Rattle.std.specs.Prelude.{Option}
use Rattle.std.proofs.lemmas.Iterator.{YieldsList-from_slice}
use Rattle.std.proofs.lemmas.Iterator.Search.{any_from_yields_List}
use Rattle.ptk_words.specs.declared.threads.Thread.{Thread}
use Rattle.ptk_words_model.specs.Mutex.{wait_of}
use Rattle.ptk_words_model.specs.Condition.{mutex_of_condition_wait, is_named}
use Rattle.ptk_threads.specs.declared.slot.Slot.{Slot}
use Rattle.ptk_threads.proofs.Slots.{threads_any}
use Rattle.ptk_cond.proofs.naming.is_any_naming.Goals as goal

pub returns : goal.returns
returns c =
    any_from_yields_List (λ (slot : Slot). is_named c.args.m (mutex_of_condition_wait (wait_of slot.thread))) _ _ _ c.any.ensures.ran (YieldsList-from_slice c.args.threads.now cc) (λ x b q k. search (rules, tests))
    ∙ threads_any (λ (thread : Option Thread). is_named c.args.m (mutex_of_condition_wait (wait_of thread))) c.args.threads.now
