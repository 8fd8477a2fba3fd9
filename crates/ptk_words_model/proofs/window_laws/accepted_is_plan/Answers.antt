use Rattle.ptk_words_model.proofs.FaultLaws.{accepted}
use Rattle.ptk_words_model.proofs.window_laws.accepted_is_plan.Goals as goal

pub returns : goal.returns
returns c = accepted
