-- The data and the zeros are passed.
use Rattle.std.proofs.Common.{◌≡◌, ℕ, ◌+◌, ◌%◌, ◌<◌, ◌≤◌, Bool, true, false, ◌&&◌, ◌||◌, List, [], ◌∷◌, ◌++◌, length, refl, sym, ap, subst, ◌∙◌, arith, append_assoc, pos, ◌==◌, nat_lt, replicate}
use Rattle.std.specs.Prelude.{not}
use Rattle.std.specs.List.{list_all}
use Rattle.std.specs.Int.{w32, from_le_bytes}
use Rattle.std.proofs.lemmas.List.{append-nil}
use Rattle.std.proofs.lemmas.Bool.Decides.{nat_tests}
use Rattle.std.proofs.lemmas.Bool.{and_parts}
use Rattle.ptk_asm_language.specs.declared.statement.Section.{Section}
use Rattle.ptk_asm_language.specs.declared.statement.Section.TheVariants as section
use Rattle.ptk_asm_language.specs.declared.statement.Form.TheVariants as form
use Rattle.ptk_asm_language.specs.declared.place.Place.{Place}
use Rattle.ptk_asm_language.specs.Source.{longest}
use Rattle.ptk_disasm.specs.WordStatements.{bare, given, word_statement}
use Rattle.ptk_disasm.proofs.Hexadecimal.{hex-within}
use Rattle.ptk_disasm.specs.Disassembly.{padded_hex, addressed, byte_lines, data_lines, zero_lines, is_byte}
use Rattle.ptk_disasm.proofs.Bytes.{small, four_bytes, four_below}
use Rattle.ptk_disasm.proofs.Numbers.{number-piece}
use Rattle.ptk_disasm.proofs.Stated.{IsSpelled}
use Rattle.ptk_disasm.proofs.WordsWritten.{word_writes, takes_number}
use Rattle.ptk_disasm.proofs.Steps.{Stands, added}
use Rattle.ptk_disasm.proofs.Passes.{Reaches, held-same, reaches-none, reaches-more, reaches-stated}
use Rattle.ptk_disasm.proofs.Segments.{lens, parts, reaches-same}

-- ---- a section's directive

spelled_directive : (to : Section) → IsSpelled (bare (form.Within to) [])
spelled_directive to = record { number = pos 0; fits = tt; value = refl }

fits_still : (n k : ℕ) → n ≤ k → nat_lt k (n + 0) ≡ false
fits_still n k h = grind (arith, nat_tests)

none_more : (n : ℕ) → n + 0 ≡ n
none_more n = omega arith

pub data-begun : (at t : ℕ) (text : List ℕ) (before : List (List ℕ)) (labels : List (List ℕ × Place)) → t ≤ longest → Stands before section.Text (lens t 0 0) labels (parts text [] [])
    → Reaches (addressed at (bare (form.Within section.Data) []) ∷ []) before section.Data (lens t 0 0) labels (parts text [] [])
data-begun at t text before labels room stands =
    reaches-same _ before section.Data section.Data (lens (t + 0) 0 0) (lens t 0 0) labels _ (parts text [] []) refl (ap (λ (k : ℕ). lens k 0 0) (none_more t)) same
    (reaches-stated before section.Text (lens t 0 0) labels (parts text [] []) stands (bare (form.Within section.Data) []) (spelled_directive section.Data) (padded_hex at) (hex-within at) refl refl (fits_still t longest room))
  where
    same : (s : Section) → parts text [] [] s ++ added section.Text (bare (form.Within section.Data) []) s ≡ parts text [] [] s
    same section.Text = append-nil text
    same section.Data = refl
    same section.Bss = refl

pub zeros-begun : (at t d : ℕ) (text bytes : List ℕ) (before : List (List ℕ)) (labels : List (List ℕ × Place)) → d ≤ longest → Stands before section.Data (lens t d 0) labels (parts text bytes [])
    → Reaches (addressed at (bare (form.Within section.Bss) []) ∷ []) before section.Bss (lens t d 0) labels (parts text bytes [])
zeros-begun at t d text bytes before labels room stands =
    reaches-same _ before section.Bss section.Bss (lens t (d + 0) 0) (lens t d 0) labels _ (parts text bytes []) refl (ap (λ (k : ℕ). lens t k 0) (none_more d)) same
    (reaches-stated before section.Data (lens t d 0) labels (parts text bytes []) stands (bare (form.Within section.Bss) []) (spelled_directive section.Bss) (padded_hex at) (hex-within at) refl refl (fits_still d longest room))
  where
    same : (s : Section) → parts text bytes [] s ++ added section.Data (bare (form.Within section.Bss) []) s ≡ parts text bytes [] s
    same section.Text = append-nil text
    same section.Data = append-nil bytes
    same section.Bss = refl

-- ---- bytes

spelled_byte : (b : ℕ) → b < 256 → IsSpelled (given form.Byte [] (pos b))
spelled_byte b h = record { number = pos b; fits = ((number-piece form.Byte (pos b) (omega (arith, h)), takes_number 128 255 (pos b) (grind (arith, nat_tests))), (refl, tt)); value = refl }

has_room : (n m k : ℕ) → n + m ≤ k → nat_lt k (n + m) ≡ false
has_room n m k h = grind (arith, nat_tests)

byte_reached : (at t d b : ℕ) (text bytes : List ℕ) (before : List (List ℕ)) (labels : List (List ℕ × Place)) → b < 256 → d + 1 ≤ longest → Stands before section.Data (lens t d 0) labels (parts text bytes [])
    → Reaches (addressed at (given form.Byte [] (pos b)) ∷ []) before section.Data (lens t (d + 1) 0) labels (parts text (bytes ++ b ∷ []) [])
byte_reached at t d b text bytes before labels small room stands =
    reaches-same _ before section.Data section.Data (lens t (d + 1) 0) (lens t (d + 1) 0) labels _ (parts text (bytes ++ b ∷ []) []) refl refl same
    (reaches-stated before section.Data (lens t d 0) labels (parts text bytes []) stands (given form.Byte [] (pos b)) (spelled_byte b small) (padded_hex at) (hex-within at) refl refl (has_room d 1 longest room))
  where
    same : (s : Section) → parts text bytes [] s ++ added section.Data (given form.Byte [] (pos b)) s ≡ parts text (bytes ++ b ∷ []) [] s
    same section.Text = append-nil text
    same section.Data = ap (λ (x : ℕ). bytes ++ x ∷ []) (omega (arith, small))
    same section.Bss = refl

more_data : (text a b c : List ℕ) (s : Section) → parts text ((a ++ b) ++ c) [] s ≡ parts text (a ++ (b ++ c)) [] s
more_data text a b c section.Text = refl
more_data text a b c section.Data = append_assoc a b c
more_data text a b c section.Bss = refl

ended : (text bytes : List ℕ) (s : Section) → parts text bytes [] s ≡ parts text (bytes ++ []) [] s
ended text bytes section.Text = refl
ended text bytes section.Data = sym (append-nil bytes)
ended text bytes section.Bss = refl

bytes_reached : (at t d : ℕ) (text bytes more : List ℕ) (before : List (List ℕ)) (labels : List (List ℕ × Place)) → list_all is_byte more ≡ true → d + length more ≤ longest
    → Stands before section.Data (lens t d 0) labels (parts text bytes []) → Reaches (byte_lines at more) before section.Data (lens t (d + length more) 0) labels (parts text (bytes ++ more) [])
bytes_reached at t d text bytes [] before labels all room stands =
    reaches-none before section.Data (lens t (d + 0) 0) labels (parts text (bytes ++ []) [])
    (held-same before section.Data (lens t d 0) (lens t (d + 0) 0) labels (parts text bytes []) (parts text (bytes ++ []) []) (ap (λ (k : ℕ). lens t k 0) (omega arith)) (ended text bytes) stands)
bytes_reached at t d text bytes (b ∷ bs) before labels all room stands =
    let facts = and_parts (is_byte b) (list_all is_byte bs) all in
    let first = byte_reached at t d b text bytes before labels (small b facts.0) (omega (arith, room)) stands in
    let later = bytes_reached (at + 1) t (d + 1) text (bytes ++ b ∷ []) bs first.after labels facts.1 (omega (arith, room)) first.stands in
    reaches-same (byte_lines at (b ∷ bs)) before section.Data section.Data (lens t ((d + 1) + length bs) 0) (lens t (d + length (b ∷ bs)) 0) labels
    (parts text ((bytes ++ b ∷ []) ++ bs) []) (parts text (bytes ++ (b ∷ bs)) []) refl (ap (λ (k : ℕ). lens t k 0) (omega arith)) (more_data text bytes (b ∷ []) bs)
    (reaches-more (addressed at (given form.Byte [] (pos b)) ∷ []) (byte_lines (at + 1) bs) before section.Data section.Data (lens t (d + 1) 0) (lens t ((d + 1) + length bs) 0) labels labels
    (parts text (bytes ++ b ∷ []) []) (parts text ((bytes ++ b ∷ []) ++ bs) []) first later)

-- ---- words of the data

placed_right : (d : ℕ) → d % 4 ≡ 0 → d + 4 ≤ longest → ((true && not (d % 4 == 0)) || nat_lt longest (d + 4)) ≡ false
placed_right d h room = grind (arith, nat_tests)

four_reached : (at t d a b c e : ℕ) (text bytes : List ℕ) (before : List (List ℕ)) (labels : List (List ℕ × Place)) → a < 256 → b < 256 → c < 256 → e < 256 → d % 4 ≡ 0 → d + 4 ≤ longest
    → Stands before section.Data (lens t d 0) labels (parts text bytes [])
    → Reaches (addressed at (word_statement (from_le_bytes w32 (a ∷ b ∷ c ∷ e ∷ []))) ∷ []) before section.Data (lens t (d + 4) 0) labels (parts text (bytes ++ a ∷ b ∷ c ∷ e ∷ []) [])
four_reached at t d a b c e text bytes before labels ha hb hc he whole room stands =
    let word : ℕ = from_le_bytes w32 (a ∷ b ∷ c ∷ e ∷ []) in
    let writes = word_writes word (four_below a b c e ha hb hc he) in
    reaches-same _ before section.Data section.Data (lens t (d + 4) 0) (lens t (d + 4) 0) labels _ (parts text (bytes ++ a ∷ b ∷ c ∷ e ∷ []) []) refl refl (same (writes.written ∙ four_bytes a b c e ha hb hc he))
    (reaches-stated before section.Data (lens t d 0) labels (parts text bytes []) stands (word_statement word) writes.spelled (padded_hex at) (hex-within at) refl refl (placed_right d whole room))
  where
    same : added section.Data (word_statement (from_le_bytes w32 (a ∷ b ∷ c ∷ e ∷ []))) section.Data ≡ a ∷ b ∷ c ∷ e ∷ []
        → (s : Section) → parts text bytes [] s ++ added section.Data (word_statement (from_le_bytes w32 (a ∷ b ∷ c ∷ e ∷ []))) s ≡ parts text (bytes ++ a ∷ b ∷ c ∷ e ∷ []) [] s
    same is section.Text = append-nil text
    same is section.Data = ap (λ (x : List ℕ). bytes ++ x) is
    same is section.Bss = refl

pub data-reached : (at t d : ℕ) (text bytes more : List ℕ) (before : List (List ℕ)) (labels : List (List ℕ × Place)) → list_all is_byte more ≡ true → d % 4 ≡ 0 → d + length more ≤ longest
    → Stands before section.Data (lens t d 0) labels (parts text bytes []) → Reaches (data_lines at more) before section.Data (lens t (d + length more) 0) labels (parts text (bytes ++ more) [])
data-reached at t d text bytes [] before labels all whole room stands = bytes_reached at t d text bytes [] before labels all room stands
data-reached at t d text bytes (a ∷ []) before labels all whole room stands = bytes_reached at t d text bytes (a ∷ []) before labels all room stands
data-reached at t d text bytes (a ∷ b ∷ []) before labels all whole room stands = bytes_reached at t d text bytes (a ∷ b ∷ []) before labels all room stands
data-reached at t d text bytes (a ∷ b ∷ c ∷ []) before labels all whole room stands = bytes_reached at t d text bytes (a ∷ b ∷ c ∷ []) before labels all room stands
data-reached at t d text bytes (a ∷ b ∷ c ∷ e ∷ more) before labels all whole room stands =
    let one = and_parts (is_byte a) (list_all is_byte (b ∷ c ∷ e ∷ more)) all in
    let two = and_parts (is_byte b) (list_all is_byte (c ∷ e ∷ more)) one.1 in
    let three = and_parts (is_byte c) (list_all is_byte (e ∷ more)) two.1 in
    let four = and_parts (is_byte e) (list_all is_byte more) three.1 in
    let first = four_reached at t d a b c e text bytes before labels (small a one.0) (small b two.0) (small c three.0) (small e four.0) whole (omega (arith, room)) stands in
    let later = data-reached (at + 4) t (d + 4) text (bytes ++ a ∷ b ∷ c ∷ e ∷ []) more first.after labels four.1 (omega (arith, whole)) (omega (arith, room)) first.stands in
    reaches-same (data_lines at (a ∷ b ∷ c ∷ e ∷ more)) before section.Data section.Data (lens t ((d + 4) + length more) 0) (lens t (d + length (a ∷ b ∷ c ∷ e ∷ more)) 0) labels
    (parts text ((bytes ++ a ∷ b ∷ c ∷ e ∷ []) ++ more) []) (parts text (bytes ++ (a ∷ b ∷ c ∷ e ∷ more)) []) refl (ap (λ (k : ℕ). lens t k 0) (omega arith)) (more_data text bytes (a ∷ b ∷ c ∷ e ∷ []) more)
    (reaches-more (addressed at (word_statement (from_le_bytes w32 (a ∷ b ∷ c ∷ e ∷ []))) ∷ []) (data_lines (at + 4) more) before section.Data section.Data (lens t (d + 4) 0) (lens t ((d + 4) + length more) 0) labels labels
    (parts text (bytes ++ a ∷ b ∷ c ∷ e ∷ []) []) (parts text ((bytes ++ a ∷ b ∷ c ∷ e ∷ []) ++ more) []) first later)

-- ---- the zeros

spelled_zeros : (n : ℕ) → n ≤ longest → IsSpelled (given form.Space [] (pos n))
spelled_zeros n h = record { number = pos n; fits = ((number-piece form.Space (pos n) (omega (arith, h)), takes_number 0 1048576 (pos n) (grind (arith, nat_tests))), (refl, tt)); value = refl }

pub zeros-reached : (at t d n : ℕ) (text bytes : List ℕ) (before : List (List ℕ)) (labels : List (List ℕ × Place)) → n ≤ longest → Stands before section.Bss (lens t d 0) labels (parts text bytes [])
    → Reaches (zero_lines at n) before section.Bss (lens t d n) labels (parts text bytes (replicate n 0))
zeros-reached at t d n text bytes before labels room stands = by_test (n == 0) refl
  where
    equal : (n : ℕ) → (n == 0) ≡ true → 0 ≡ n
    equal n h = grind (arith, nat_tests)

    same : (s : Section) → parts text bytes [] s ++ added section.Bss (given form.Space [] (pos n)) s ≡ parts text bytes (replicate n 0) s
    same section.Text = append-nil text
    same section.Data = append-nil bytes
    same section.Bss = refl

    by_test : (b : Bool) → (n == 0) ≡ b → Reaches (zero_lines at n) before section.Bss (lens t d n) labels (parts text bytes (replicate n 0))
    by_test true test =
        rw test (subst (λ (k : ℕ). Reaches [] before section.Bss (lens t d k) labels (parts text bytes (replicate k 0))) (equal n test)
        (reaches-none before section.Bss (lens t d 0) labels (parts text bytes []) stands))
    by_test false test =
        rw test
        (reaches-same _ before section.Bss section.Bss (lens t d (0 + n)) (lens t d n) labels _ (parts text bytes (replicate n 0)) refl (ap (λ (k : ℕ). lens t d k) (omega arith)) same
        (reaches-stated before section.Bss (lens t d 0) labels (parts text bytes []) stands (given form.Space [] (pos n)) (spelled_zeros n room) (padded_hex at) (hex-within at) refl refl (has_room 0 n longest (omega (arith, room)))))
