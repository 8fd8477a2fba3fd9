-- How many priorities a walk reads, how many rose, and how many may be read for it.
use Rattle.std.specs.Prelude.{ℕ, zero, suc, ◌≤◌, List, [], ◌∷◌, nat_le, nat_lt, Option, option_map, unwrap_or, if◌then◌else◌}
use Rattle.ptk_threads.specs.Table.{stored_of}
use Rattle.ptk_roster.specs.Raised.{raised}

-- how many priorities a walk from u reads: of each number that it raises, and of the one that it stops at (own)
abbrev pub reads : (ℕ → Option ℕ) → ℕ → ℕ → ℕ → List ℕ → ℕ
reads next priority zero u stored = 1
reads next priority (suc fuel) u stored =
    if nat_le priority (stored_of stored u)
    then 1
    else suc (unwrap_or (option_map (λ v. reads next priority fuel v (raised priority u stored)) (next u)) 0)

-- of how many numbers the priority is greater after than before (own)
abbrev pub risen_count : List ℕ → List ℕ → ℕ
risen_count [] after = 0
risen_count (a ∷ before) [] = 0
risen_count (a ∷ before) (b ∷ after) = if nat_lt a b then suc (risen_count before after) else risen_count before after

-- as many were read as rose, or one more (own)
pub record IsVisited (visited : ℕ) (before after : List ℕ) : Type 0 where
  pub all : risen_count before after ≤ visited
  pub few : visited ≤ suc (risen_count before after)
