-- What is written so far, a line at a time.
use Rattle.std.proofs.Common.{◌≡◌, ℕ, ◌<◌, ◌≤◌, ◌+◌, ◌-◌, ◌*◌, pos, take, drop, length-drop, List, [], ◌∷◌, ◌++◌, length, refl, sym, ap, ◌∙◌, append_assoc, arith, true, suc}
use Rattle.std.proofs.Math.ListN.{get_or}
use Rattle.std.specs.List.{list_all}
use Rattle.std.proofs.lemmas.Bool.Decides.{nat_tests}
use Rattle.std.specs.Int.{w32, from_le_bytes}
use Rattle.std.proofs.lemmas.List.{take_rest}
use Rattle.ptk_asm_language.specs.declared.statement.Form.TheVariants as form
use Rattle.ptk_disasm.specs.WordStatements.{given}
use Rattle.std.proofs.lemmas.Grind.{flat_map-append}
pub use Rattle.ptk_asm.proofs.Hexadecimal.{hex-eight, shape-appended}
use Rattle.ptk_disasm.specs.Spelling.{Line, line_text}
use Rattle.ptk_disasm.specs.Disassembly.{addressed, text_for, data_lines, is_byte}

-- the first of the lines that are left
pub line-more : (out : List ℕ) (l : Line) (later : List Line) → (out ++ text_for (l ∷ [])) ++ text_for later ≡ out ++ text_for (l ∷ later)
line-more out l later =
    append_assoc out (text_for (l ∷ [])) (text_for later)
    ∙ ap (λ (t : List ℕ). out ++ t) (sym (flat_map-append (λ (x : Line). line_text x ++ 10 ∷ []) (l ∷ []) later))

-- the first word of data, before those that are left
pub data-more : (out : List ℕ) (at : ℕ) (rest : List ℕ) (word : ℕ) → 4 ≤ length rest → word ≡ get_or rest 0 0 + get_or rest 1 0 * 256 + get_or rest 2 0 * 65536 + get_or rest 3 0 * 16777216
    → (out ++ text_for (addressed at (given form.Word [] (pos word)) ∷ [])) ++ text_for (data_lines (at + 4) (take (length rest - 4) (drop 4 rest))) ≡ out ++ text_for (data_lines at rest)
data-more out at [] word h e = absurd (omega (arith, h))
data-more out at (a ∷ []) word h e = absurd (omega (arith, h))
data-more out at (a ∷ b ∷ []) word h e = absurd (omega (arith, h))
data-more out at (a ∷ b ∷ c ∷ []) word h e = absurd (omega (arith, h))
data-more out at (a ∷ b ∷ c ∷ d ∷ more) word h e =
    let first : ℕ → Line = λ w. addressed at (given form.Word [] (pos w)) in
    let bytes : List ℕ = a ∷ b ∷ c ∷ d ∷ more in
    ap (λ (w : ℕ). (out ++ text_for (first w ∷ [])) ++ text_for (data_lines (at + 4) (take (length bytes - 4) (drop 4 bytes)))) e
    ∙ ap (λ (ys : List ℕ). (out ++ text_for (first (from_le_bytes w32 (a ∷ b ∷ c ∷ d ∷ [])) ∷ [])) ++ text_for (data_lines (at + 4) ys)) (take_rest bytes 4)
    ∙ line-more out (first (from_le_bytes w32 (a ∷ b ∷ c ∷ d ∷ []))) (data_lines (at + 4) more)

-- the bytes behind the first word
pub data-length : (at total : ℕ) (rest : List ℕ) → 4 ≤ length rest → at + length rest ≡ total → at + 4 + length (take (length rest - 4) (drop 4 rest)) ≡ total
data-length at total rest h e =
    let same : length (take (length rest - 4) (drop 4 rest)) ≡ length rest - 4 = ap length (take_rest rest 4) ∙ length-drop 4 rest in
    omega (arith, same, h, e)

-- ---- bytes

byte_test : (b : ℕ) → b < 256 → is_byte b ≡ true
byte_test b h = grind (arith, nat_tests)

-- numbers below 256 are bytes
pub bytes-fit : (xs : List ℕ) → ((k : ℕ) → get_or xs k 0 < 256) → list_all is_byte xs ≡ true
bytes-fit [] h = refl
bytes-fit (x ∷ xs) h = rw (byte_test x (h 0)) (bytes-fit xs (λ k. h (suc k)))
