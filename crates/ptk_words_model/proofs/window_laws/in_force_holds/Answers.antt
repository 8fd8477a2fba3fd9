use Rattle.ptk_words_model.proofs.InForce.{in_force}
use Rattle.ptk_words_model.proofs.window_laws.in_force_holds.Goals as goal

pub returns : goal.returns
returns c = λ plan number stage is. in_force plan.stages number stage is.rising
