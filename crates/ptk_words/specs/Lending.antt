-- What a loan of one partition's list leaves.
use Rattle.std.specs.Prelude.{ℕ, List}
use Rattle.std.specs.Borrow.{Lends, MutBor, Fml, Array, RattleType}
use Rattle.ptk_words.specs.Cuts.{lent}
use Rattle.ptk_words.specs.contracts.parted.Parted.{the_row}

-- the lists end as after a loan of list p
abbrev pub LendsPart : (T : RattleType) → MutBor (List (List T.Denot)) → ℕ → MutBor (List T.Denot) → Fml
LendsPart T s p r = Lends (the_row T) (Array T 0) s r (lent s.now p)
