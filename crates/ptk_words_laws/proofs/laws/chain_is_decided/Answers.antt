use Rattle.ptk_words_laws.proofs.PriorityLaws.{chain_decided}
use Rattle.ptk_words_laws.proofs.laws.chain_is_decided.Goals as goal

pub returns : goal.returns
returns c = chain_decided
