-- Lines that the first pass goes over without a fault.
use Rattle.std.proofs.Common.{◌≡◌, ℕ, Bool, true, false, ◌&&◌, List, [], ◌∷◌, ◌++◌, map, Option, None, refl, ap, ◌∙◌, append_assoc}
use Rattle.std.specs.List.{list_all}
use Rattle.std.proofs.lemmas.List.{map-append}
use Rattle.ptk_asm_language.specs.declared.statement.Section.{Section}
use Rattle.ptk_asm_language.specs.declared.fault.FaultKind.{FaultKind}
use Rattle.ptk_asm_language.specs.declared.place.Place.{Place}
use Rattle.ptk_asm_language.specs.declared.place.Lengths.{Lengths}
use Rattle.ptk_asm_language.specs.Statements.{stands_in}
use Rattle.ptk_asm_language.specs.Source.{Statement, turned_by, grown, taken, lengths_after, place_after, place_in, is_misplaced, line_fault, line_place, at_line, span_after, first_pass}
use Rattle.ptk_disasm.specs.Spelling.{Line, Stated, statement_text, line_text}
use Rattle.ptk_disasm.proofs.Quiet.{is_quiet, is_within_line}
use Rattle.ptk_disasm.proofs.Stated.{IsSpelled, statement-quiet}
use Rattle.ptk_disasm.proofs.WordsWritten.{has_no_label}
use Rattle.ptk_disasm.proofs.Steps.{raw, line-clean, Stands, added, stated-step}

-- the same, with the sections' bytes in other words
pub held-same : (before : List (List ℕ)) (at : Section) (n m : Lengths) (labels : List (List ℕ × Place)) (h k : Section → List ℕ) → n ≡ m → ((s : Section) → h s ≡ k s) → Stands before at n labels h → Stands before at m labels k
held-same before at n m labels h k e same stands =
    record { turned = stands.turned; counted = stands.counted ∙ e; labelled = stands.labelled; contents = λ l s. stands.contents l s ∙ same s; known = stands.known }

-- the line has no LF
abbrev pub is_clean : Line → Bool
is_clean l = list_all is_within_line (line_text l)

all_append : {A : Type 0} (test : A → Bool) (xs ys : List A) → list_all test xs ≡ true → list_all test ys ≡ true → list_all test (xs ++ ys) ≡ true
all_append test [] ys h k = k
all_append test (x ∷ xs) ys h k = by_test (test x) refl (all_append test xs ys) h
  where
    by_test : (b : Bool) → test x ≡ b → (list_all test xs ≡ true → list_all test ys ≡ true → list_all test (xs ++ ys) ≡ true) → (test x && list_all test xs) ≡ true → list_all test (x ∷ xs ++ ys) ≡ true
    by_test true e later all = rw e (later (rw e at all) k)
    by_test false e later all = let never : false ≡ true = rw e at all in absurd (cc)

quiet_within : (xs : List ℕ) → list_all is_quiet xs ≡ true → list_all is_within_line xs ≡ true
quiet_within [] h = refl
quiet_within (x ∷ xs) h = by_test (is_within_line x) refl (quiet_within xs) h
  where
    by_test : (b : Bool) → is_within_line x ≡ b → (list_all is_quiet xs ≡ true → list_all is_within_line xs ≡ true) → (is_quiet x && list_all is_quiet xs) ≡ true → list_all is_within_line (x ∷ xs) ≡ true
    by_test true e later all = rw e (later (second (is_quiet x) (list_all is_quiet xs) all))
      where
        second : (a b : Bool) → (a && b) ≡ true → b ≡ true
        second true b h = h
        second false b h = absurd (cc)
    by_test false e later all = let never : false ≡ true = rw e at all in absurd (cc)

line_clean : (s : Statement) → IsSpelled s → (comment : List ℕ) → list_all is_within_line comment ≡ true → is_clean (Stated s comment) ≡ true
line_clean s is comment h = all_append is_within_line (statement_text s) (32 ∷ 35 ∷ 32 ∷ comment) (quiet_within (statement_text s) (statement-quiet s is)) h

one_clean : (b : Bool) → b ≡ true → (b && true) ≡ true
one_clean b e = rw e refl

-- lines are passed without a fault, and come to this
pub record Reaches (lines : List Line) (before : List (List ℕ)) (at : Section) (lengths : Lengths) (labels : List (List ℕ × Place)) (held : Section → List ℕ) : Type 0 where
  pub after : List (List ℕ)
  pub stands : Stands after at lengths labels held
  pub passed : (more : List (List ℕ)) → first_pass before (map raw lines ++ more) ≡ first_pass after more
  pub clean : list_all is_clean lines ≡ true

-- no line
pub reaches-none : (before : List (List ℕ)) (at : Section) (n : Lengths) (labels : List (List ℕ × Place)) (h : Section → List ℕ) → Stands before at n labels h → Reaches [] before at n labels h
reaches-none before at n labels h stands = record { after = before; stands = stands; passed = λ more. refl; clean = refl }

-- lines behind lines
pub reaches-more : (front back : List Line) (before : List (List ℕ)) (at to : Section) (n m : Lengths) (labels others : List (List ℕ × Place)) (h k : Section → List ℕ)
    → (r : Reaches front before at n labels h) → Reaches back r.after to m others k → Reaches (front ++ back) before to m others k
reaches-more front back before at to n m labels others h k first second =
    record {
      after = second.after;
      stands = second.stands;
      passed = λ more.
          ap (first_pass before) (ap (λ (ls : List (List ℕ)). ls ++ more) (map-append raw front back) ∙ append_assoc (map raw front) (map raw back) more)
          ∙ first.passed (map raw back ++ more) ∙ second.passed more;
      clean = all_append is_clean front back first.clean second.clean;
    }

misplaced : (s : Statement) (p q : Place) → p ≡ q → is_misplaced q s ≡ false → is_misplaced p s ≡ false
misplaced s p q e h = ap (λ (x : Place). is_misplaced x s) e ∙ h

-- a line with a statement
pub reaches-stated : (before : List (List ℕ)) (at : Section) (n : Lengths) (labels : List (List ℕ × Place)) (h : Section → List ℕ) → Stands before at n labels h
    → (s : Statement) → IsSpelled s → (comment : List ℕ) → list_all is_within_line comment ≡ true → has_no_label s.operands.value ≡ true → stands_in s.form at ≡ true → is_misplaced (place_in n at) s ≡ false
    → Reaches (Stated s comment ∷ []) before (turned_by at s.form) (grown n at (taken s)) labels (λ here. h here ++ added at s here)
reaches-stated before at n labels h stands s is comment within none room placed =
    let line : List ℕ = raw (Stated s comment) in
    let clean : line_fault before line ≡ None =
    line-clean before s is comment (ap (stands_in s.form) stands.turned ∙ room)
    (misplaced s (place_after before) (place_in n at) (ap (place_in (lengths_after before)) stands.turned ∙ ap (λ (x : Lengths). place_in x at) stands.counted) placed) in
    record {
      after = line ∷ before;
      stands = stated-step before at n labels h stands s is comment none;
      passed = λ more. ap (λ (o : Option FaultKind). at_line (span_after before line) (line_place before line) o (first_pass (line ∷ before) more)) clean;
      clean = one_clean (is_clean (Stated s comment)) (line_clean s is comment within);
    }
