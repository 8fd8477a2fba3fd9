-- Deadlines by slot: what is seen of a queue of all partitions where only some slots are looked at.
use Rattle.std.specs.Prelude.{ℕ, zero, suc, ◌-◌, ◌==◌, List, [], ◌∷◌, find, Option, option_map}
use Rattle.ptk_words.specs.Names.{Tick}
use Rattle.ptk_words_sync_invariant.specs.Withdrawal.{Expiry}
use Rattle.ptk_clock.specs.Pairs.{Pair}

-- the deadline of a slot, None where it has none
abbrev pub deadline_at : List Pair → ℕ → Option Tick
deadline_at pairs slot = option_map (λ pair. pair.0) (find (λ pair. pair.1 == slot) pairs)

-- the deadlines of this many slots from the first on; those of a partition's slots are by thread number
abbrev pub deadlines_from : ℕ → ℕ → List Pair → List (Option Tick)
deadlines_from first zero pairs = []
deadlines_from first (suc n) pairs = deadline_at pairs first ∷ deadlines_from (suc first) n pairs

-- the thread of a pair of a partition whose first slot this is, with its deadline
abbrev pub expiry_from : ℕ → Pair → Expiry
expiry_from first pair = record { thread = suc (pair.1 - first); deadline = pair.0 }
