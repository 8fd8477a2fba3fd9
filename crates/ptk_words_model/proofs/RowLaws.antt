-- No word agrees with two rows of the instruction table: two rows differ under their common mask.
use Rattle.std.proofs.Common.{rules, ◌≡◌, ℕ, Bool, true, false, ◌&&◌, not, List, [], ◌∷◌, bit_and, sym, ◌∙◌, ap, refl}
use Rattle.std.specs.Prelude.{◌==◌, All, AllPairs}
use Rattle.std.specs.List.{list_all}
use Rattle.std.proofs.lemmas.Nat.{and_assoc}
use Rattle.std.specs.Int.Bits.{and_comm}
use Rattle.std.proofs.lemmas.Bool.{eqb-true, eq-eqb, and_parts}
use Rattle.std.proofs.lemmas.List.Kept.{AllPairs-cons}
use Rattle.std.proofs.lemmas.List.Elements.{All-nil, All-cons}
use Rattle.ptk_words_model.specs.Instructions.{InstructionRow, agrees, instruction_table}

-- the two rows differ under their common mask
abbrev pub is_apart : InstructionRow → InstructionRow → Bool
is_apart a b = not (bit_and a.pattern b.mask == bit_and b.pattern a.mask)

abbrev pub all_apart : List InstructionRow → Bool
all_apart [] = true
all_apart (r ∷ rs) = list_all (is_apart r) rs && all_apart rs

abbrev pub OneAgrees : InstructionRow → InstructionRow → Type 0
OneAgrees a b = (word : ℕ) → agrees word a ≡ true → agrees word b ≡ false

common : (w a b : ℕ) → bit_and (bit_and w a) b ≡ bit_and (bit_and w b) a
common w a b = and_assoc b w a ∙ ap (bit_and w) (and_comm a b) ∙ sym (and_assoc a w b)

same_patterns : (w : ℕ) (a b : InstructionRow) → agrees w a ≡ true → agrees w b ≡ true → bit_and a.pattern b.mask ≡ bit_and b.pattern a.mask
same_patterns w a b ha hb =
    ap (λ p. bit_and p b.mask) (sym (eqb-true (bit_and w a.mask) a.pattern ha))
    ∙ common w a.mask b.mask
    ∙ ap (λ p. bit_and p a.mask) (eqb-true (bit_and w b.mask) b.pattern hb)

apart_by : (w : ℕ) (a b : InstructionRow) → is_apart a b ≡ true → agrees w a ≡ true → (t : Bool) → agrees w b ≡ t → t ≡ false
apart_by w a b h ha false e = refl
apart_by w a b h ha true e =
    let same : (bit_and a.pattern b.mask == bit_and b.pattern a.mask) ≡ true = eq-eqb _ _ (same_patterns w a b ha e) in
    absurd (search (h, same, rules))

pub apart : (a b : InstructionRow) → is_apart a b ≡ true → OneAgrees a b
apart a b h w ha = apart_by w a b h ha (agrees w b) refl

each_apart : (r : InstructionRow) (rs : List InstructionRow) → list_all (is_apart r) rs ≡ true → All (OneAgrees r) rs
each_apart r [] e = All-nil (OneAgrees r)
each_apart r (s ∷ rs) e =
    let h : (is_apart r s ≡ true) × (list_all (is_apart r) rs ≡ true) = and_parts _ _ e in
    All-cons (OneAgrees r) s rs (apart r s h.0) (each_apart r rs h.1)

pub pairs_apart : (rows : List InstructionRow) → all_apart rows ≡ true → AllPairs OneAgrees rows
pairs_apart [] e = search rules
pairs_apart (r ∷ rs) e =
    let h : (list_all (is_apart r) rs ≡ true) × (all_apart rs ≡ true) = and_parts _ _ e in
    AllPairs-cons OneAgrees r rs (each_apart r rs h.0) (pairs_apart rs h.1)

pub table_apart : all_apart instruction_table ≡ true
table_apart = refl
