-- Names of addresses end no line.
use Rattle.std.proofs.Common.{◌≡◌, ℕ, Bool, true, false, List, [], ◌∷◌, Option, Some, None, refl, arith, ◌==◌}
use Rattle.std.specs.Prelude.{codes, filter}
use Rattle.std.specs.List.{list_all}
use Rattle.std.proofs.lemmas.Bool.Decides.{nat_tests}
use Rattle.std.specs.Fmt.{digits}
use Rattle.ptk_disasm.specs.Tables.{is_visible, exact, nearest, distance_text, bracketed}
use Rattle.ptk_disasm.specs.Disassembly.{AreWithinLine, names_of, is_within_line}
use Rattle.ptk_disasm.proofs.Hexadecimal.{both-within, digits-within, each-within}

visible_within : (c : ℕ) → is_visible c ≡ true → is_within_line c ≡ true
visible_within c h = grind (arith, nat_tests)

filter_within : (cs : List ℕ) → list_all is_within_line (filter is_visible cs) ≡ true
filter_within [] = refl
filter_within (c ∷ cs) = by_test (is_visible c) refl (filter_within cs)
  where
    by_test : (b : Bool) → is_visible c ≡ b → list_all is_within_line (filter is_visible cs) ≡ true → list_all is_within_line (filter is_visible (c ∷ cs)) ≡ true
    by_test true e h = rw e (rw (visible_within c e) h)
    by_test false e h = rw e h

distance_within : (d : ℕ) → list_all is_within_line (distance_text d) ≡ true
distance_within d = by_test (d == 0) refl
  where
    by_test : (b : Bool) → (d == 0) ≡ b → list_all is_within_line (distance_text d) ≡ true
    by_test true e = rw e refl
    by_test false e = rw e (both-within (codes "+0x") (digits 16 false d) refl (digits-within d))

bracketed_within : (o : Option (List ℕ × ℕ)) → list_all is_within_line (bracketed o) ≡ true
bracketed_within None = refl
bracketed_within (Some n) =
    each-within (codes " <" ∷ filter is_visible n.0 ∷ distance_text n.1 ∷ codes ">" ∷ []) (refl, (filter_within n.0, (distance_within n.1, (refl, tt))))

pub names-within : (symbols : List (ℕ × List ℕ)) → AreWithinLine (names_of symbols)
names-within symbols = record {
  here = λ a. bracketed_within (exact symbols a);
  there = λ a. bracketed_within (nearest symbols a);
}
