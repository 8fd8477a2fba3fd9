use Rattle.std.proofs.Common.{inr}
use Rattle.std.proofs.lemmas.Result.{IfErr-weaker}
use Rattle.ptk_main_commands.proofs.tracing.put_words.Goals as goal

pub returns : goal.returns
returns g c = record { silent = IfErr-weaker c.decoded_answer.result _ _ (λ fault silent other. silent (λ e. other (inr e))) c.decoded_answer.ensures.silent }
