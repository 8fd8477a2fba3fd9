use Rattle.ptk_ready.proofs.Lists.{line_same, filed_sound}
use Rattle.ptk_ready.proofs.laws.lists_tell_line.Goals as goal

pub returns-clause-line : goal.returns-clause-line
returns-clause-line c = λ links ends stamps are few. line_same links ends stamps are few

pub returns-clause-sound : goal.returns-clause-sound
returns-clause-sound c = λ limit range links ends stored stamps bitmap are few. filed_sound limit range links ends stored stamps bitmap are few
