-- Numbers past a partition's, and free ones.
use Rattle.std.proofs.lemmas.List.{set-get_or}
use Rattle.ptk_words.proofs.Pools.{get_beyond, least_free_none}

pub ruleset numbers = (get_beyond, least_free_none, set-get_or)
