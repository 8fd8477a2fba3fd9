-- The tables after a change of one partition, and those made for each section.
use Rattle.std.proofs.lemmas.List.{length-map, length-set}
use Rattle.ptk_words.proofs.Pools.{length-update}
use Rattle.ptk_words.proofs.Cuts.{lent-same, set_part-same}
use Rattle.ptk_words.proofs.Entries.{filled_per}

-- ---- lengths

pub ruleset tables = (lent-same, length-set, set_part-same, length-update)

-- ---- made for each section

pub ruleset built = (filled_per, length-map)
