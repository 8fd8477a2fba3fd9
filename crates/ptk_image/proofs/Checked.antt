-- Bytes that pass each check are read as an image.
use Rattle.std.proofs.Common.{◌≡◌, ◌∙◌, ◌≤◌, ◌+◌, ◌-◌, ◌%◌, ℕ, true, List, length, take, drop, refl, codes, le-ltb, Ok}
use Rattle.std.specs.Prelude.{nat_eq}
use Rattle.std.specs.List.{starts_with}
use Rattle.std.proofs.lemmas.List.{drop-drop}
use Rattle.std.proofs.lemmas.Bool.{eq-eqb}
use Rattle.ptk_words.specs.Image.{header_word, image_of}

image_read : (bytes : List ℕ) → 24 ≤ length bytes → starts_with nat_eq bytes (codes "PTKI") ≡ true → header_word bytes 0 ≡ 1
    → header_word bytes 2 % 4 ≡ 0 → length bytes - 24 ≡ header_word bytes 2 + header_word bytes 3
    → header_word bytes 1 % 4 ≡ 0 → header_word bytes 1 ≤ header_word bytes 2
    → image_of bytes ≡ Ok (record { entry = header_word bytes 1; text = take (header_word bytes 2) (drop 24 bytes); «data» = drop (24 + header_word bytes 2) bytes; bss = header_word bytes 4 })
image_read bytes long magic version words whole aligned inside =
    rw (
      le-ltb (length bytes) 24 long,
      magic,
      eq-eqb (header_word bytes 0) 1 version,
      eq-eqb (header_word bytes 2 % 4) 0 words,
      eq-eqb (length bytes - 24) (header_word bytes 2 + header_word bytes 3) whole,
      eq-eqb (header_word bytes 1 % 4) 0 aligned,
      le-ltb (header_word bytes 2) (header_word bytes 1) inside,
    ) refl

-- the same, by the values
pub image_read_as : (bytes : List ℕ) (entry text rest bss : ℕ) (t d : List ℕ) → 24 ≤ length bytes → starts_with nat_eq bytes (codes "PTKI") ≡ true
    → header_word bytes 0 ≡ 1 → entry ≡ header_word bytes 1 → text ≡ header_word bytes 2 → rest ≡ header_word bytes 3 → bss ≡ header_word bytes 4
    → text % 4 ≡ 0 → length bytes - 24 ≡ text + rest → entry % 4 ≡ 0 → entry ≤ text
    → t ≡ take text (drop 24 bytes) → d ≡ drop text (drop 24 bytes)
    → image_of bytes ≡ Ok (record { entry = entry; text = t; «data» = d; bss = bss })
image_read_as bytes entry text rest bss t d long magic version e1 e2 e3 e4 words whole aligned inside et ed =
    rw (et, ed ∙ drop-drop text 24 bytes, e1, e2, e4) (image_read bytes long magic version (rw e2 at words) (rw (e2, e3) at whole) (rw e1 at aligned) (rw (e1, e2) at inside))
