-- The bytes of an image are read as it, and bytes that are read as an image are its bytes.
use Rattle.std.proofs.Common.{◌≡◌, ◌∙◌, ◌≤◌, ◌<◌, ◌+◌, ◌-◌, ◌%◌, ◌^◌, ℕ, Bool, true, false, List, ◌++◌, length, get_or, take, drop, refl, sym, ap, codes, Result, Ok, Err, arith, length-append, length-take, length-drop, eqb-true}
use Rattle.std.specs.Prelude.{◌==◌, nat_eq, nat_lt, not, ◌||◌, if◌then◌else◌}
use Rattle.std.specs.Cmp.Lexicographic.{same_text}
use Rattle.std.specs.List.{starts_with}
use Rattle.std.proofs.Math.Seq.{drop-append_seam, take-append_seam}
use Rattle.std.proofs.lemmas.Bool.{ltb-false, not-false, or_parts}
use Rattle.std.proofs.lemmas.Nat.{from_le_bytes-to_le_bytes_4, le_bytes_4}
use Rattle.std.proofs.lemmas.List.{drop-drop, get_or-drop, get_or-take, get_or_past, take-append-drop}
use Rattle.ptk_words.specs.Image.{ImageParts, header_word, image_bytes, image_of, spelled}
use Rattle.ptk_words.specs.Words.{word_at}
use Rattle.ptk_words.specs.declared.faults.ImageFault.TheVariants.{Short, Magic, Version, Length, Entry}
use Rattle.ptk_image.proofs.Checked.{image_read_as}

pub read_back : (entry bss : ℕ) (t d : List ℕ) → entry % 4 ≡ 0 → entry ≤ length t → length t % 4 ≡ 0 → length t < 2 ^ 32 → length d < 2 ^ 32 → bss < 2 ^ 32
    → image_of (image_bytes (record { entry = entry; text = t; «data» = d; bss = bss })) ≡ Ok (record { entry = entry; text = t; «data» = d; bss = bss })
read_back entry bss t d aligned inside words text_fits data_fits bss_fits =
    image_read_as (image_bytes (record { entry = entry; text = t; «data» = d; bss = bss })) entry (length t) (length d) bss t d
    (omega arith) refl refl (sym (from_le_bytes-to_le_bytes_4 entry (omega arith))) (sym (from_le_bytes-to_le_bytes_4 (length t) text_fits))
    (sym (from_le_bytes-to_le_bytes_4 (length d) data_fits)) (sym (from_le_bytes-to_le_bytes_4 bss bss_fits))
    words (omega (arith, length-append t d)) aligned inside (sym (take-append_seam t d)) (sym (drop-append_seam t d))

-- ---- a word of four bytes, spelled again

small_part : (xs : List ℕ) (n m : ℕ) → ((i : ℕ) → get_or xs i 0 < 256) → (i : ℕ) → get_or (take n (drop m xs)) i 0 < 256
small_part xs n m small i = grind (arith, get_or-take, get_or-drop, get_or_past, length-take, small (m + i))

word_back : (bytes : List ℕ) (at : ℕ) → ((i : ℕ) → get_or bytes i 0 < 256) → at + 4 ≤ length bytes
    → spelled (word_at bytes at) ++ drop (at + 4) bytes ≡ drop at bytes
word_back bytes at small fits =
    let four : at + 4 - at ≡ 4 = omega arith in
    let long : length (take (at + 4 - at) (drop at bytes)) ≡ 4 = grind (arith, length-take, length-drop) in
    let again : spelled (word_at bytes at) ≡ take (at + 4 - at) (drop at bytes) =
    le_bytes_4 (take (at + 4 - at) (drop at bytes)) (word_at bytes at) long (small_part bytes (at + 4 - at) at small) refl
    in
    ap (λ xs. xs ++ drop (at + 4) bytes) (again ∙ ap (λ n. take n (drop at bytes)) four)
    ∙ ap (λ xs. take 4 (drop at bytes) ++ xs) (sym (drop-drop 4 at bytes))
    ∙ take-append-drop 4 (drop at bytes)

-- ---- what a read image passed

passed : {A E : Type 0} (b : Bool) (e : E) (r : Result A E) (x : A) → (if b then Err e else r) ≡ Ok x → (b ≡ false) × (r ≡ Ok x)
passed {A = A} {E = E} b e r x h =
    let P : Bool → Type 0 = λ v. (if v then Err e else r) ≡ Ok x → (v ≡ false) × (r ≡ Ok x) in
    elim b as P [ true ↦ λ (q : ◌≡◌ {A = Result A E} (Err e) (Ok x)). absurd (cc) | false ↦ λ (q : r ≡ Ok x). (refl, q) ] h

chain : (p v e t d b text rest b24 b20 b16 b12 b8 b4 bytes : List ℕ)
    → text ++ rest ≡ b24 → b ++ b24 ≡ b20 → d ++ b20 ≡ b16 → t ++ b16 ≡ b12 → e ++ b12 ≡ b8 → v ++ b8 ≡ b4 → p ++ b4 ≡ bytes
    → p ++ (v ++ (e ++ (t ++ (d ++ (b ++ (text ++ rest)))))) ≡ bytes
chain p v e t d b text rest b24 b20 b16 b12 b8 b4 bytes h1 h2 h3 h4 h5 h6 h7 = cc

-- the bytes from their parts
joined : (bytes : List ℕ) → ((i : ℕ) → get_or bytes i 0 < 256) → 24 ≤ length bytes → starts_with nat_eq bytes (codes "PTKI") ≡ true → header_word bytes 0 ≡ 1
    → length bytes - 24 ≡ header_word bytes 2 + header_word bytes 3
    → image_bytes (record { entry = header_word bytes 1; text = take (header_word bytes 2) (drop 24 bytes); «data» = drop (24 + header_word bytes 2) bytes; bss = header_word bytes 4 }) ≡ bytes
joined bytes small long magic version whole =
    let text : List ℕ = take (header_word bytes 2) (drop 24 bytes) in
    let rest : List ℕ = drop (24 + header_word bytes 2) bytes in
    let text_length : length text ≡ header_word bytes 2 = grind (arith, length-take, length-drop) in
    let rest_length : length rest ≡ header_word bytes 3 = grind (arith, length-drop) in
    chain (codes "PTKI") (spelled 1) (spelled (header_word bytes 1)) (spelled (length text)) (spelled (length rest)) (spelled (header_word bytes 4)) text rest
    (drop 24 bytes) (drop 20 bytes) (drop 16 bytes) (drop 12 bytes) (drop 8 bytes) (drop 4 bytes) bytes
    (ap (λ xs. text ++ xs) (sym (drop-drop (header_word bytes 2) 24 bytes)) ∙ take-append-drop (header_word bytes 2) (drop 24 bytes))
    (word_back bytes 20 small (omega arith))
    (ap (λ n. spelled n ++ drop 20 bytes) rest_length ∙ word_back bytes 16 small (omega arith))
    (ap (λ n. spelled n ++ drop 16 bytes) text_length ∙ word_back bytes 12 small (omega arith))
    (word_back bytes 8 small (omega arith))
    (ap (λ n. spelled n ++ drop 8 bytes) (sym version) ∙ word_back bytes 4 small (omega arith))
    (ap (λ xs. xs ++ drop 4 bytes) (same_text (codes "PTKI") (take 4 bytes) (sym magic)) ∙ take-append-drop 4 bytes)

-- each test failed, and the rest is the value
all_passed : {A E : Type 0} (b c d f g : Bool) (e1 e2 e3 e4 e5 : E) (x y : A)
    → (if b then Err e1 else if c then Err e2 else if d then Err e3 else if f then Err e4 else if g then Err e5 else Ok x) ≡ Ok y
    → (b ≡ false) × (c ≡ false) × (d ≡ false) × (f ≡ false) × (x ≡ y)
all_passed {A = A} {E = E} b c d f g e1 e2 e3 e4 e5 x y h =
    let h1 = passed b e1 (if c then Err e2 else if d then Err e3 else if f then Err e4 else if g then Err e5 else Ok x) y h in
    let h2 = passed c e2 (if d then Err e3 else if f then Err e4 else if g then Err e5 else Ok x) y h1.1 in
    let h3 = passed d e3 (if f then Err e4 else if g then Err e5 else Ok x) y h2.1 in
    let h4 = passed f e4 (if g then Err e5 else Ok x) y h3.1 in
    let h5 = passed g e5 (Ok x) y h4.1 in
    let last : ◌≡◌ {A = Result A E} (Ok x) (Ok y) = h5.1 in
    let same : x ≡ y = cc in
    (h1.0, h2.0, h3.0, h4.0, same)

pub write_back : (bytes : List ℕ) → ((i : ℕ) → get_or bytes i 0 < 256) → (image : ImageParts) → image_of bytes ≡ Ok image → image_bytes image ≡ bytes
write_back bytes small image h =
    let entry : ℕ = header_word bytes 1 in
    let text : ℕ = header_word bytes 2 in
    let rest : ℕ = header_word bytes 3 in
    let read : ImageParts = record { entry = entry; text = take text (drop 24 bytes); «data» = drop (24 + text) bytes; bss = header_word bytes 4 } in
    let tests =
    all_passed (nat_lt (length bytes) 24) (not (starts_with nat_eq bytes (codes "PTKI"))) (not (header_word bytes 0 == 1))
    (not (text % 4 == 0) || not (length bytes - 24 == text + rest)) (not (entry % 4 == 0) || nat_lt text entry)
    Short Magic Version Length Entry read image h
    in
    let lengths = or_parts (not (text % 4 == 0)) (not (length bytes - 24 == text + rest)) tests.3 in
    ap image_bytes (sym tests.4)
    ∙ joined bytes small (ltb-false (length bytes) 24 tests.0) (not-false (starts_with nat_eq bytes (codes "PTKI")) tests.1)
    (eqb-true (header_word bytes 0) 1 (not-false (header_word bytes 0 == 1) tests.2))
    (eqb-true (length bytes - 24) (text + rest) (not-false (length bytes - 24 == text + rest) lengths.1))
