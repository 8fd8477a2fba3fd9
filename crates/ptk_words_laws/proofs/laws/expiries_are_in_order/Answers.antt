use Rattle.ptk_words_laws.proofs.ExpiryLaws.{expiries_ordered}
use Rattle.ptk_words_laws.proofs.laws.expiries_are_in_order.Goals as goal

pub returns : goal.returns
returns c = expiries_ordered
