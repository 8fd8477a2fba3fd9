-- What a loan of one partition's bytes leaves.
use Rattle.std.specs.Prelude.{ℕ, List}
use Rattle.std.specs.Borrow.{Lends, MutBor, Fml, Array, u8}
use Rattle.ptk_words.specs.Cuts.{lent}
use Rattle.ptk_regions.specs.contracts.Regions.{the_row}

-- the bytes end as after a loan of partition p's: where as many are left behind, the others' are as they were
abbrev pub LendsRegion : MutBor (List (List ℕ)) → ℕ → MutBor (List ℕ) → Fml
LendsRegion s p r = Lends the_row (Array u8 0) s r (lent s.now p)
