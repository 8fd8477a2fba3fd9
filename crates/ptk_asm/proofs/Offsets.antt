-- The bytes of each statement stand at its offset.
use Rattle.std.proofs.Common.{◌≡◌, ℕ, ◌-◌, ◌<◌, ◌≤◌, List, [], ◌∷◌, ◌++◌, length, length-drop, length-take, take, drop, min, Option, Some, None, refl, sym, ap, subst, ◌∙◌, arith}
use Rattle.std.specs.List.{All}
use Rattle.std.proofs.Math.Seq.{drop-append_seam}
use Rattle.std.proofs.lemmas.Grind.{common_steps}
use Rattle.std.proofs.lemmas.List.{append-nil, take-append-le, drop-append-le}
use Rattle.std.proofs.lemmas.List.Concat.{flat_map-append}
use Rattle.std.proofs.lemmas.List.Elements.{All-nil, All-cons, All-append, All-weaker}
use Rattle.ptk_asm_language.specs.declared.statement.Section.{Section}
use Rattle.ptk_asm_language.specs.declared.statement.Section.TheVariants as section
use Rattle.ptk_asm_language.specs.declared.place.Span.{Span}
use Rattle.ptk_asm_language.specs.declared.place.Extent.{Extent}
use Rattle.ptk_asm_language.specs.Source.{last_of, Statement, Placed, Layout, statement_of, section_after, place_after, placed_at, placed_after, span_after, placed_bytes, bytes_in, contents_of}
use Rattle.ptk_asm.specs.Laws.{StandsAt}
use Rattle.ptk_asm.proofs.Lengths.{section-length}

-- ---- bytes in a list

-- bytes at an offset stay there when others come behind them
at_more : (b c d : List ℕ) (k : ℕ) → take (length b) (drop k c) ≡ b → take (length b) (drop k (c ++ d)) ≡ b
at_more [] c d k e = grind (arith, common_steps)
at_more (x ∷ b) c d k e =
    let n : length (take (length (x ∷ b)) (drop k c)) ≡ length (x ∷ b) = ap length e in
    let m : min (length (x ∷ b)) (length c - k) ≡ length (x ∷ b) = sym (length-take (length (x ∷ b)) (drop k c) ∙ ap (min (length (x ∷ b))) (length-drop k c)) ∙ n in
    let some : 0 < length (x ∷ b) = omega arith in
    let inside : k ≤ length c = omega (arith, m, some) in
    let fits : length (x ∷ b) ≤ length (drop k c) = rw length-drop (omega (arith, m)) in
    ap (take (length (x ∷ b))) (drop-append-le k c d inside) ∙ take-append-le (length (x ∷ b)) (drop k c) d fits ∙ e

-- bytes behind a list stand at its length
at_end : (b c : List ℕ) (k : ℕ) → k ≡ length c → take (length b) (drop k (c ++ (b ++ []))) ≡ b
at_end b c k e =
    ap (λ (n : ℕ). take (length b) (drop n (c ++ (b ++ [])))) e
    ∙ ap (λ (d : List ℕ). take (length b) (drop (length c) (c ++ d))) (append-nil b)
    ∙ ap (take (length b)) (drop-append_seam c b) ∙ grind (arith, common_steps)

-- ---- statements

own_bytes : (l : Layout) (p : Placed) (at : Section) → p.place.section ≡ at → bytes_in l at p ≡ placed_bytes l p
own_bytes l p section.Text e = rw e refl
own_bytes l p section.Data e = rw e refl
own_bytes l p section.Bss e = rw e refl

-- statements stand where they stood when others come behind them
stands_more : (l : Layout) (ps qs : List Placed) (p : Placed) → StandsAt l ps p → StandsAt l (ps ++ qs) p
stands_more l ps qs p stands =
    subst (λ (bytes : List ℕ). take (length (placed_bytes l p)) (drop p.place.offset bytes) ≡ placed_bytes l p) (sym (flat_map-append (bytes_in l p.place.section) ps qs))
    (at_more (placed_bytes l p) (contents_of l p.place.section ps) (contents_of l p.place.section qs) p.place.offset stands)

-- a statement stands behind those before it
stands_last : (l : Layout) (ps : List Placed) (p : Placed) → p.place.offset ≡ length (contents_of l p.place.section ps) → StandsAt l (ps ++ p ∷ []) p
stands_last l ps p e =
    let parts : contents_of l p.place.section (ps ++ p ∷ []) ≡ contents_of l p.place.section ps ++ (placed_bytes l p ++ []) =
    flat_map-append (bytes_in l p.place.section) ps (p ∷ []) ∙ ap (λ (bytes : List ℕ). contents_of l p.place.section ps ++ (bytes ++ [])) (own_bytes l p p.place.section refl) in
    subst (λ (bytes : List ℕ). take (length (placed_bytes l p)) (drop p.place.offset bytes) ≡ placed_bytes l p) (sym parts)
    (at_end (placed_bytes l p) (contents_of l p.place.section ps) p.place.offset e)

stands_added : (l : Layout) (before : List (List ℕ)) (span : Span) (last : Extent) (found : Option Statement)
    → All (StandsAt l (placed_after before ++ placed_at span (place_after before) last found)) (placed_at span (place_after before) last found)
stands_added l before span last None = All-nil (StandsAt l (placed_after before ++ []))
stands_added l before span last (Some s) =
    let p : Placed = record { span = span; place = place_after before; last = last; statement = s } in
    All-cons (StandsAt l (placed_after before ++ p ∷ [])) p [] (stands_last l (placed_after before) p (sym (section-length l (section_after before) before)))
    (All-nil (StandsAt l (placed_after before ++ p ∷ [])))

-- each statement of lines stands at its offset
pub stands-all : (l : Layout) (before : List (List ℕ)) → All (StandsAt l (placed_after before)) (placed_after before)
stands-all l [] = All-nil (StandsAt l [])
stands-all l (line ∷ before) =
    let added = placed_at (span_after before line) (place_after before) (last_of line) (statement_of line) in
    All-append (StandsAt l (placed_after before ++ added)) (placed_after before) added
    (All-weaker (StandsAt l (placed_after before)) (StandsAt l (placed_after before ++ added)) (λ (p : Placed). stands_more l (placed_after before) added p) (placed_after before) (stands-all l before))
    (stands_added l before (span_after before line) (last_of line) (statement_of line))
