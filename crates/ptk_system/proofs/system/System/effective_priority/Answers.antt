use Rattle.std.proofs.Common.{◌≡◌, subst}
use Rattle.std.specs.Prelude.{option_map}
use Rattle.ptk_words.specs.declared.threads.Thread.{Thread}
use Rattle.ptk_words_model.specs.Priority.{effective_priority, thread_at}
use Rattle.ptk_words_model.specs.State.{Part}
use Rattle.ptk_system.proofs.system.System.effective_priority.Goals as goal

pub returns : goal.returns
returns c =
    subst (λ (part : Part). c.effective_priority.result ≡ option_map (λ (thread : Thread). effective_priority part.locks c.args.t) (thread_at part.locks c.args.t))
    (c.tables.ensures.states c.args.p c.requires) c.effective_priority.ensures
