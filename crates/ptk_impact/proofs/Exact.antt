-- What `==` says of optional values, where it says of values whether they are the same.
use Rattle.std.proofs.Common.{◌≡◌, ◌≢◌, ◌∙◌, Bool, true, false, Option, Some, None, refl, sym, ap}
use Rattle.std.specs.Prelude.{◌↔◌, IsTrue, is_some, unwrap_or}
use Rattle.std.specs.Option.{option_eq}

-- where it holds they are the same
pub same-values : {A : Type 0} (E : A → A → Bool) → ((x y : A) → IsTrue (E x y) ↔ (x ≡ y)) → (a b : Option A) → option_eq E a b ≡ true → a ≡ b
same-values E exact None None h = refl
same-values E exact None (Some y) h = absurd (cc)
same-values E exact (Some x) None h = absurd (cc)
same-values E exact (Some x) (Some y) h = ap Some ((exact x y).0 h)

-- where it does not they are not
pub other-values : {A : Type 0} (E : A → A → Bool) → ((x y : A) → IsTrue (E x y) ↔ (x ≡ y)) → (a b : Option A) → option_eq E a b ≡ false → a ≢ b
other-values E exact None None h same = absurd (cc)
other-values E exact None (Some y) h same = let never : false ≡ true = ap is_some same in absurd (cc)
other-values E exact (Some x) None h same = let never : true ≡ false = ap is_some same in absurd (cc)
other-values E exact (Some x) (Some y) h same =
    let never : false ≡ true = sym h ∙ (exact x y).1 (ap (λ (o : Option _). unwrap_or o x) same) in absurd (cc)

pub ruleset exact_rules = (same-values, other-values)
