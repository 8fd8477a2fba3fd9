-- Results in a row: the first fault ends the row, and a `do` block over results reads by this.
use Rattle.std.specs.Prelude.{Result, Ok, Err}

infixl 10 ◌>>=◌
-- the next step, with the value of the one before; a fault stays, and the next step is not made (own)
abbrev pub ◌>>=◌ : {A B E : Type 0} → Result A E → (A → Result B E) → Result B E
Ok a >>= f = f a
Err e >>= f = Err e
