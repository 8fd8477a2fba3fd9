-- Comments have no LF.
use Rattle.std.proofs.Common.{◌≡◌, ℕ, ◌-◌, ◌/◌, ◌%◌, Bool, true, false, ◌&&◌, List, [], ◌∷◌, ◌++◌, length, Option, Some, None, refl, arith, suc, zero, ◌==◌, replicate}
use Rattle.std.specs.Prelude.{codes}
use Rattle.std.specs.List.{concat, list_all}
use Rattle.std.specs.Fmt.{digits, digits_onto, digit_glyph}
use Rattle.std.proofs.lemmas.Bool.Decides.{nat_tests}
use Rattle.ptk_rv32i_code.specs.Coding.{decoded}
use Rattle.ptk_disasm.specs.Disassembly.{Names, AreWithinLine, padded_hex, target_of, target_text, word_comment}
use Rattle.ptk_disasm.proofs.Quiet.{is_within_line}

glyph_within : (d : ℕ) → is_within_line (digit_glyph false d) ≡ true
glyph_within d = grind (arith, nat_tests)

cons_within : (c : ℕ) (cs : List ℕ) → is_within_line c ≡ true → list_all is_within_line cs ≡ true → list_all is_within_line (c ∷ cs) ≡ true
cons_within c cs h k = rw h k

onto_within : (k n : ℕ) (acc : List ℕ) → list_all is_within_line acc ≡ true → list_all is_within_line (digits_onto k 16 false n acc) ≡ true
onto_within zero n acc h = h
onto_within (suc k) n acc h = by_test (onto_within k (n / 16) (digit_glyph false (n % 16) ∷ acc)) (n / 16 == 0) refl
  where
    by_test : (list_all is_within_line (digit_glyph false (n % 16) ∷ acc) ≡ true → list_all is_within_line (digits_onto k 16 false (n / 16) (digit_glyph false (n % 16) ∷ acc)) ≡ true)
        → (b : Bool) → (n / 16 == 0) ≡ b → list_all is_within_line (digits_onto (suc k) 16 false n acc) ≡ true
    by_test later true e = rw e (cons_within (digit_glyph false (n % 16)) acc (glyph_within (n % 16)) h)
    by_test later false e = rw e (later (cons_within (digit_glyph false (n % 16)) acc (glyph_within (n % 16)) h))

pub digits-within : (n : ℕ) → list_all is_within_line (digits 16 false n) ≡ true
unfolding digits
digits-within n = onto_within 64 n [] refl

zeros_within : (k : ℕ) (cs : List ℕ) → list_all is_within_line cs ≡ true → list_all is_within_line (replicate k 48 ++ cs) ≡ true
zeros_within zero cs h = h
zeros_within (suc k) cs h = zeros_within k cs h

pub both-within : (xs ys : List ℕ) → list_all is_within_line xs ≡ true → list_all is_within_line ys ≡ true → list_all is_within_line (xs ++ ys) ≡ true
both-within [] ys h k = k
both-within (x ∷ xs) ys h k = by_test (is_within_line x) refl (both-within xs ys) h
  where
    by_test : (b : Bool) → is_within_line x ≡ b → (list_all is_within_line xs ≡ true → list_all is_within_line ys ≡ true → list_all is_within_line (xs ++ ys) ≡ true) → (is_within_line x && list_all is_within_line xs) ≡ true → list_all is_within_line (x ∷ xs ++ ys) ≡ true
    by_test true e later all = rw e (later (rw e at all) k)
    by_test false e later all = let never : false ≡ true = rw e at all in absurd (cc)

pub hex-within : (n : ℕ) → list_all is_within_line (padded_hex n) ≡ true
hex-within n = zeros_within (8 - length (digits 16 false n)) (digits 16 false n) (digits-within n)

-- each of these pieces has no LF
abbrev pub AreWithin : List (List ℕ) → Type 0
AreWithin [] = Unit {0}
AreWithin (x ∷ xs) = (list_all is_within_line x ≡ true) × AreWithin xs

pub each-within : (xs : List (List ℕ)) → AreWithin xs → list_all is_within_line (concat xs) ≡ true
each-within [] h = refl
each-within (x ∷ xs) h = both-within x (concat xs) h.0 (each-within xs h.1)

target_within : (names : Names) → AreWithinLine names → (target : Option ℕ) → list_all is_within_line (target_text names target) ≡ true
target_within names within None = refl
target_within names within (Some target) = each-within (codes " -> " ∷ padded_hex target ∷ names.there target ∷ []) (refl, (hex-within target, (within.there target, tt)))

pub word-comment : (names : Names) → AreWithinLine names → (at word : ℕ) → list_all is_within_line (word_comment names at word) ≡ true
word-comment names within at word =
    let target : List ℕ = target_text names (target_of at (decoded word)) in
    each-within (padded_hex at ∷ names.here at ∷ codes " " ∷ padded_hex word ∷ target ∷ [])
    (hex-within at, (within.here at, (refl, (hex-within word, (target_within names within (target_of at (decoded word)), tt)))))
