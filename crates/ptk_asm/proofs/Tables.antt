-- The table of a source's labels.
use Rattle.std.proofs.Common.{◌≡◌, ℕ, Bool, true, false, List, [], ◌∷◌, map, Some, refl, sym, ap, subst, ◌∙◌, arith, Contains}
use Rattle.std.specs.Prelude.{option_map}
use Rattle.std.specs.Str.{bytes_eq}
use Rattle.std.specs.List.{AllByRecursion, IsDistinct}
use Rattle.std.specs.Map.{keys_of, lookup}
use Rattle.std.proofs.lemmas.Slice.Eq.{bytes_eq-Decides}
use Rattle.std.proofs.lemmas.Option.{none-some}
use Rattle.std.proofs.lemmas.List.Sorted.{All-permutation, Contains-permutation, IsPermutation-map}
use Rattle.std.proofs.lemmas.List.Elements.{All-map, All-weaker, Contains-append_right}
use Rattle.std.proofs.lemmas.Cmp.{nat_list_eq_equiv}
use Rattle.std.proofs.lemmas.Map.Keys.{IsDistinct-IsPermutation}
use denote.Ref.{Bor}
use Rattle.ptk_asm_language.specs.declared.place.Place.{Place}
use Rattle.ptk_asm_language.specs.declared.place.Lengths.{Lengths}
use Rattle.ptk_asm_language.specs.Statements.{named}
use Rattle.ptk_asm_language.specs.Source.{layout_of}
use Rattle.ptk_asm.specs.declared.layout.Layout as code
use Rattle.ptk_asm.specs.declared.symbols.Symbol.{Symbol}
use Rattle.ptk_asm.specs.Passing.{IsLaidOut, place_named}
use Rattle.ptk_asm.specs.Symbols.{AreApart, AreFound, IsLabelTable, IsOf, IsTable, is_of_one_name, symbol_at}

by_test : (b : Bool) (q : List ℕ) (l : Bor (List ℕ) × Place) (labels : List (Bor (List ℕ) × Place)) (place : Place) → bytes_eq q l.0.now ≡ b
    → (lookup (λ k. bytes_eq q k.now) labels ≡ Some place → Contains (map (λ (l : Bor (List ℕ) × Place). l.0.now) labels) q)
    → lookup (λ k. bytes_eq q k.now) (l ∷ labels) ≡ Some place → Contains (map (λ (l : Bor (List ℕ) × Place). l.0.now) (l ∷ labels)) q
by_test true q l labels place e later h = (0, omega arith, sym ((bytes_eq-Decides q l.0.now).0 e))
by_test false q l labels place e later h = Contains-append_right (l.0.now ∷ []) (map (λ (l : Bor (List ℕ) × Place). l.0.now) labels) q (later (rw e at h))

-- a label that is found by a name has it
named_in : (q : List ℕ) (labels : List (Bor (List ℕ) × Place)) (place : Place) → lookup (λ k. bytes_eq q k.now) labels ≡ Some place → Contains (map (λ (l : Bor (List ℕ) × Place). l.0.now) labels) q
named_in q [] place h = absurd (none-some place h)
named_in q (l ∷ labels) place h = by_test (bytes_eq q l.0.now) q l labels place refl (named_in q labels place) h

-- the names of the labels at their addresses
names_of : (lengths : Lengths) (labels : List (Bor (List ℕ) × Place)) → map (λ (s : Symbol). s.name.now) (map (symbol_at lengths) labels) ≡ map (λ (l : Bor (List ℕ) × Place). l.0.now) labels
names_of lengths [] = refl
names_of lengths (l ∷ labels) = ap (λ names. l.0.now ∷ names) (names_of lengths labels)

-- where no two keys have one name, no two labels have
once : (lengths : Lengths) (labels : List (Bor (List ℕ) × Place)) → IsDistinct (λ (a b : Bor (List ℕ)). bytes_eq a.now b.now) (keys_of labels)
    → IsDistinct is_of_one_name (map (symbol_at lengths) labels)
unfolding IsDistinct
once lengths [] apart = tt
once lengths (l ∷ labels) apart = (others labels apart.0, once lengths labels apart.1)
  where
    others : (rest : List (Bor (List ℕ) × Place)) → AllByRecursion (λ (k : Bor (List ℕ)). bytes_eq l.0.now k.now ≡ false) (keys_of rest)
        → AllByRecursion (λ (s : Symbol). is_of_one_name (symbol_at lengths l) s ≡ false) (map (symbol_at lengths) rest)
    others [] h = tt
    others (x ∷ rest) h = (h.0, others rest h.1)

-- what the code's map of a layout holds, as the labels of the source
pub label_table : (source text : List ℕ) (l : code.Layout) → IsLaidOut source l → AreFound l.labels → AreApart l.labels → IsTable l.lengths l.labels.entries text → IsLabelTable source text
label_table source text l (before, (reaches, laid_out)) found apart (rows, same, order, is) =
    let layout = layout_of before in
    let lengths : l.lengths ≡ layout.lengths = reaches.shows.lengths in
    let placed : (label : Bor (List ℕ) × Place) → place_named l.labels label.0.now ≡ Some label.1 → IsOf layout (symbol_at l.lengths label) =
    λ label h. subst (λ lens. option_map (λ place. symbol_at layout.lengths (label.0, place)) (named layout.labels label.0.now) ≡ Some (symbol_at lens label)) (sym lengths)
    (ap (option_map (λ place. symbol_at layout.lengths (label.0, place))) (sym (reaches.shows.labels label.0.now) ∙ h)) in
    let names : List Symbol → List (List ℕ) = map (λ (s : Symbol). s.name.now) in
    record {
      layout = layout;
      laid_out = laid_out;
      rows = rows;
      each = All-permutation (IsOf layout) _ rows same (All-map (IsOf layout) (symbol_at l.lengths) l.labels.entries (All-weaker _ _ placed l.labels.entries found));
      every = λ name place h. Contains-permutation (names (map (symbol_at l.lengths) l.labels.entries)) (names rows) name (IsPermutation-map (λ (s : Symbol). s.name.now) _ rows same)
          (subst (λ xs. Contains xs name) (sym (names_of l.lengths l.labels.entries)) (named_in name l.labels.entries place (reaches.shows.labels name ∙ h)));
      once = IsDistinct-IsPermutation is_of_one_name (λ s u. nat_list_eq_equiv.symm s.name.now u.name.now) (map (symbol_at l.lengths) l.labels.entries) rows same (once l.lengths l.labels.entries apart);
      order = order;
      is = is;
    }
