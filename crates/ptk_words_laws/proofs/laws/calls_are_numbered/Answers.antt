use Rattle.ptk_words_laws.proofs.CallLaws.{calls_numbered}
use Rattle.ptk_words_laws.proofs.laws.calls_are_numbered.Goals as goal

pub returns : goal.returns
returns c = calls_numbered
