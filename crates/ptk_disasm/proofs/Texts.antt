-- The text with the label of its entry is passed.
use Rattle.std.proofs.Common.{◌≡◌, ℕ, ◌+◌, ◌*◌, ◌%◌, ◌^◌, ◌<◌, ◌≤◌, Bool, true, false, List, [], ◌∷◌, ◌++◌, length, refl, sym, ap, subst, arith, append_assoc, ◌==◌}
use Rattle.std.specs.List.{list_all}
use Rattle.std.specs.Int.{w32, to_le_bytes}
use Rattle.std.proofs.lemmas.List.{append-nil}
use Rattle.std.proofs.lemmas.Bool.{and_parts, eq-eqb, eqb-false, eqb-true}
use Rattle.ptk_asm_language.specs.declared.statement.Section.{Section}
use Rattle.ptk_asm_language.specs.declared.statement.Section.TheVariants as section
use Rattle.ptk_asm_language.specs.declared.place.Place.{Place}
use Rattle.ptk_asm_language.specs.Source.{longest}
use Rattle.ptk_disasm.specs.Spelling.{Line, Entry}
use Rattle.ptk_disasm.specs.Disassembly.{Names, AreWithinLine, word_line, text_lines}
use Rattle.ptk_disasm.proofs.Steps.{Stands}
use Rattle.ptk_disasm.proofs.Passes.{Reaches, reaches-more}
use Rattle.ptk_disasm.proofs.Segments.{lens, parts, reaches-same, word-reached, start, entry-reached, is_word, bytes_for, words-behind, word_below}

joined : (t : List ℕ) (w : ℕ) (ws : List ℕ) (s : Section) → parts ((t ++ to_le_bytes w32 w) ++ bytes_for ws) [] [] s ≡ parts (t ++ bytes_for (w ∷ ws)) [] [] s
joined t w ws section.Text = append_assoc t (to_le_bytes w32 w) (bytes_for ws)
joined t w ws section.Data = refl
joined t w ws section.Bss = refl

-- a word, and lines behind it
word_more : (names : Names) (within : AreWithinLine names) (at n w : ℕ) (t ws : List ℕ) (before : List (List ℕ)) (labels others : List (List ℕ × Place)) (tail : List Line) → w < 2 ^ 32 → n + 4 ≤ longest
    → Stands before section.Text (lens n 0 0) labels (parts t [] [])
    → ((b : List (List ℕ)) → Stands b section.Text (lens (n + 4) 0 0) labels (parts (t ++ to_le_bytes w32 w) [] [])
    → Reaches tail b section.Text (lens ((n + 4) + 4 * length ws) 0 0) others (parts ((t ++ to_le_bytes w32 w) ++ bytes_for ws) [] []))
    → Reaches (word_line names at w ∷ tail) before section.Text (lens (n + 4 * length (w ∷ ws)) 0 0) others (parts (t ++ bytes_for (w ∷ ws)) [] [])
word_more names within at n w t ws before labels others tail h room stands later =
    let first = word-reached names within at n w t before labels h room stands in
    reaches-same (word_line names at w ∷ tail) before section.Text section.Text (lens ((n + 4) + 4 * length ws) 0 0) (lens (n + 4 * length (w ∷ ws)) 0 0) others
    (parts ((t ++ to_le_bytes w32 w) ++ bytes_for ws) [] []) (parts (t ++ bytes_for (w ∷ ws)) [] []) refl (ap (λ (k : ℕ). lens k 0 0) (omega arith)) (joined t w ws)
    (reaches-more (word_line names at w ∷ []) tail before section.Text section.Text (lens (n + 4) 0 0) (lens ((n + 4) + 4 * length ws) 0 0) labels others
    (parts (t ++ to_le_bytes w32 w) [] []) (parts ((t ++ to_le_bytes w32 w) ++ bytes_for ws) [] []) first (later first.after first.stands))

-- the label of the entry, which is here
entry_here : (entry n : ℕ) (before : List (List ℕ)) (h : Section → List ℕ) → n ≡ entry → Stands before section.Text (lens n 0 0) [] h → Reaches (Entry ∷ []) before section.Text (lens n 0 0) (start entry) h
entry_here entry n before h e stands = subst (λ (k : ℕ). Reaches (Entry ∷ []) before section.Text (lens n 0 0) (start k) h) e (entry-reached n before h stands)

ended : (t : List ℕ) (s : Section) → parts t [] [] s ≡ parts (t ++ []) [] [] s
ended t section.Text = sym (append-nil t)
ended t section.Data = refl
ended t section.Bss = refl

pub text-reached : (names : Names) (within : AreWithinLine names) (entry at : ℕ) (t words : List ℕ) (before : List (List ℕ)) → at ≤ entry → entry ≤ at + 4 * length words → at % 4 ≡ 0 → entry % 4 ≡ 0 → list_all is_word words ≡ true → at + 4 * length words ≤ longest
    → Stands before section.Text (lens at 0 0) [] (parts t [] [])
    → Reaches (text_lines names entry at words) before section.Text (lens (at + 4 * length words) 0 0) (start entry) (parts (t ++ bytes_for words) [] [])
text-reached names within entry at t [] before low high whole aligned all room stands =
    let e : at ≡ entry = omega (arith, low, high) in
    rw (eq-eqb at entry e)
    (reaches-same (Entry ∷ []) before section.Text section.Text (lens at 0 0) (lens (at + 0) 0 0) (start entry) (parts t [] []) (parts (t ++ []) [] []) refl (ap (λ (k : ℕ). lens k 0 0) (omega arith)) (ended t)
    (entry_here entry at before (parts t [] []) e stands))
text-reached names within entry at t (w ∷ ws) before low high whole aligned all room stands =
    by_test (λ b l s. text-reached names within entry (at + 4) (t ++ to_le_bytes w32 w) ws b l (omega (arith, high)) (omega (arith, whole)) aligned ((and_parts (is_word w) (list_all is_word ws) all).1) (omega (arith, room)) s) (at == entry) refl
  where
    by_test : ((b : List (List ℕ)) → at + 4 ≤ entry → Stands b section.Text (lens (at + 4) 0 0) [] (parts (t ++ to_le_bytes w32 w) [] [])
        → Reaches (text_lines names entry (at + 4) ws) b section.Text (lens ((at + 4) + 4 * length ws) 0 0) (start entry) (parts ((t ++ to_le_bytes w32 w) ++ bytes_for ws) [] []))
        → (b : Bool) → (at == entry) ≡ b → Reaches (text_lines names entry at (w ∷ ws)) before section.Text (lens (at + 4 * length (w ∷ ws)) 0 0) (start entry) (parts (t ++ bytes_for (w ∷ ws)) [] [])
    by_test later true test =
        let facts = and_parts (is_word w) (list_all is_word ws) all in
        let e : at ≡ entry = eqb-true at entry test in
        let first = entry_here entry at before (parts t [] []) e stands in
        rw test
        (reaches-more (Entry ∷ []) (word_line names at w ∷ text_lines names entry (at + 4) ws) before section.Text section.Text (lens at 0 0) (lens (at + 4 * length (w ∷ ws)) 0 0) (start entry) (start entry) (parts t [] []) (parts (t ++ bytes_for (w ∷ ws)) [] [])
        first (word_more names within at at w t ws first.after (start entry) (start entry) (text_lines names entry (at + 4) ws) (word_below w facts.0) (omega (arith, room)) first.stands
        (λ b s. words-behind names within entry (at + 4) (at + 4) (t ++ to_le_bytes w32 w) ws b (start entry) (omega (arith, e)) facts.1 (omega (arith, room)) s)))
    by_test later false test =
        let facts = and_parts (is_word w) (list_all is_word ws) all in
        let apart : at ≡ entry → ⊥ = eqb-false at entry test in
        let past : at + 4 ≤ entry = grind (arith, low, whole, aligned, apart) in
        rw test (word_more names within at at w t ws before [] (start entry) (text_lines names entry (at + 4) ws) (word_below w facts.0) (omega (arith, room)) stands (λ b s. later b past s))
