-- The numbers of the named registers are below 32.
use Rattle.std.proofs.Common.{◌≡◌, ℕ, ◌<◌, ◌^◌, ◌&&◌, Bool, true, false, List, [], ◌∷◌, Option, Some, None, refl, ◌∙◌, arith, nat_lt}
use Rattle.std.specs.Str.{bytes_eq}
use Rattle.std.proofs.lemmas.Bool.Decides.{nat_tests}
use Rattle.ptk_asm_language.specs.Statements.{named, called, numbered, called_names, numbered_names, register_named}

-- each number of the table is below 32
abbrev all_small : List (List ℕ × ℕ) → Bool
all_small [] = true
all_small (entry ∷ table) = nat_lt entry.1 (2 ^ 5) && all_small table

entry_small : (table : List (List ℕ × ℕ)) (name : List ℕ) (n : ℕ) → all_small table ≡ true → named table name ≡ Some n → n < 2 ^ 5
entry_small [] name n small e = absurd (cc)
entry_small (entry ∷ table) name n small e = by_size (entry_small table name n) (nat_lt entry.1 (2 ^ 5)) refl
  where
    by_match : (all_small table ≡ true → named table name ≡ Some n → n < 2 ^ 5) → all_small table ≡ true → entry.1 < 2 ^ 5 → (b : Bool) → bytes_eq entry.0 name ≡ b → n < 2 ^ 5
    by_match later rest first true is =
        let found : Some entry.1 ≡ Some n = rw is at e in
        let same : entry.1 ≡ n = cc in
        rw (← same) first
    by_match later rest first false is = later rest (rw is at e)

    by_size : (all_small table ≡ true → named table name ≡ Some n → n < 2 ^ 5) → (b : Bool) → nat_lt entry.1 (2 ^ 5) ≡ b → n < 2 ^ 5
    by_size later true fits =
        let first : entry.1 < 2 ^ 5 = grind (arith, nat_tests) in
        by_match later (rw fits at small) first (bytes_eq entry.0 name) refl
    by_size later false fits = let never : false ≡ true = rw fits at small in absurd (cc)

called_small : (name : List ℕ) (n : ℕ) → called name ≡ Some n → n < 2 ^ 5
unfolding called
called_small name n e = entry_small called_names name n refl e

numbered_small : (name : List ℕ) (n : ℕ) → numbered name ≡ Some n → n < 2 ^ 5
unfolding numbered
numbered_small name n e = entry_small numbered_names name n refl e

pub named_small : (name : List ℕ) (n : ℕ) → register_named name ≡ Some n → n < 2 ^ 5
named_small name n e = by_use (called name) refl
  where
    by_use : (found : Option ℕ) → called name ≡ found → n < 2 ^ 5
    by_use (Some m) is = called_small name n (is ∙ (rw is at e))
    by_use None is = numbered_small name n (rw is at e)
