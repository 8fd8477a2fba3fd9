-- Symbols that were read, before those that are left.
use Rattle.std.proofs.Common.{◌≡◌, ℕ, List, [], ◌∷◌, ◌++◌, Some, Result, Ok, Err, refl, ap, append_assoc, true, ◌<◌, length, take, drop, arith}
use Rattle.std.specs.Prelude.{nat_lt}
use Rattle.std.specs.List.{list_all}
use Rattle.std.proofs.lemmas.Bool.Decides.{nat_tests}
use Rattle.ptk_disasm.specs.Tables.{with_symbol, is_mark, is_visible, address_behind, symbol_in}

-- the symbol of a line that is one
pub symbol-found : (line : List ℕ) (a : ℕ) → 11 < length line → is_mark (take 3 (drop 8 line)) ≡ true → list_all is_visible (drop 11 line) ≡ true → address_behind 0 (take 8 line) ≡ Some a
    → symbol_in line ≡ Some (a, drop 11 line)
symbol-found line a h m v e =
    let long : nat_lt 11 (length line) ≡ true = grind (arith, nat_tests) in
    rw (long, m, v, e) refl

-- symbols before those of a table
abbrev pub before : List (ℕ × List ℕ) → Result (List (ℕ × List ℕ)) ℕ → Result (List (ℕ × List ℕ)) ℕ
before symbols (Ok later) = Ok (symbols ++ later)
before symbols (Err n) = Err n

-- a symbol more
pub before-more : (symbols : List (ℕ × List ℕ)) (s : ℕ × List ℕ) (n : ℕ) (later : Result (List (ℕ × List ℕ)) ℕ)
    → before (symbols ++ s ∷ []) later ≡ before symbols (with_symbol n (Some s) later)
before-more symbols s n (Ok later) = ap Ok (append_assoc symbols (s ∷ []) later)
before-more symbols s n (Err m) = refl
