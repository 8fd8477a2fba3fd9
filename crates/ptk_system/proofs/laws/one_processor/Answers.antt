use Rattle.ptk_words_model.proofs.OwnLaws.{own_apart}
use Rattle.ptk_system.proofs.Views.{step_stays}
use Rattle.ptk_system.proofs.laws.one_processor.Goals as goal

pub returns-clause-within : goal.returns-clause-within
returns-clause-within c = step_stays

pub returns-clause-apart : goal.returns-clause-apart
returns-clause-apart c = own_apart
