-- A new mutex at the least free number.
use Rattle.std.proofs.lemmas.List.{set-get_or}
use Rattle.ptk_words.proofs.Pools.{least_free_none}

pub ruleset pools = (least_free_none, set-get_or)
