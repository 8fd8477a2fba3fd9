-- What is stored of one partition in the roster, and its chains.
use Rattle.std.specs.Prelude.{ℕ, List, Option, slice_set}
use Rattle.ptk_words.specs.Names.{Priority, ThreadNumber}
use Rattle.ptk_words_model.specs.Priority.{next_in_chain}
use Rattle.ptk_words.specs.Parts.{part_of}
use Rattle.ptk_roster.specs.Rosters.{Rostered}

-- the roster with these stored priorities of a partition (own)
abbrev pub with_priorities : ℕ → List Priority → Rostered → Rostered
with_priorities p priorities roster = record roster { table = record roster.table { stored = slice_set roster.table.stored p priorities } }

-- the next thread of a chain of a partition (pthread_mutexattr_getprotocol)
abbrev pub next_at : ℕ → Rostered → ThreadNumber → Option ThreadNumber
next_at p roster = next_in_chain (part_of roster.table.threads p) (part_of roster.mutexes p)
