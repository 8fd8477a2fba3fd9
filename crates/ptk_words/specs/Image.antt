-- Images: the bytes that spell one, and the first check that bytes fail (own).
use Rattle.std.specs.Prelude.{ℕ, ◌+◌, ◌-◌, ◌*◌, ◌%◌, not, ◌||◌, List, ◌++◌, length, take, drop, ◌==◌, nat_eq, nat_lt, if◌then◌else◌, Result, Ok, Err, codes}
use Rattle.std.specs.Int.{w32, to_le_bytes}
use Rattle.std.specs.List.{starts_with}
use Rattle.ptk_words.specs.declared.faults.ImageFault.{ImageFault}
use Rattle.ptk_words.specs.declared.faults.ImageFault.TheVariants.{Short, Magic, Version, Length, Entry}
use Rattle.ptk_words.specs.Words.{word_at}

-- what an image has: the first pc, the text, the data, and how many zeros come after them (own)
pub record ImageParts : Type 0 where
  pub entry : ℕ
  pub text : List ℕ
  pub «data» : List ℕ
  pub bss : ℕ

-- a word of the header after the bytes PTKI: version, entry, and the lengths of text, data and bss (own)
abbrev pub header_word : List ℕ → ℕ → ℕ
header_word bytes i = word_at bytes (4 + 4 * i)

-- the image that these bytes spell, or the first check that they fail (own)
abbrev pub image_of : List ℕ → Result ImageParts ImageFault
image_of bytes =
    let entry : ℕ = header_word bytes 1 in
    let text : ℕ = header_word bytes 2 in
    let rest : ℕ = header_word bytes 3 in
    if nat_lt (length bytes) 24 then Err Short
    else if not (starts_with nat_eq bytes (codes "PTKI")) then Err Magic
    else if not (header_word bytes 0 == 1) then Err Version
    else if not (text % 4 == 0) || not (length bytes - 24 == text + rest) then Err Length
    else if not (entry % 4 == 0) || nat_lt text entry then Err Entry
    else Ok (record { entry = entry; text = take text (drop 24 bytes); «data» = drop (24 + text) bytes; bss = header_word bytes 4 })

-- a word as its bytes, least first (own)
abbrev pub spelled : ℕ → List ℕ
spelled word = to_le_bytes w32 word

-- the one spelling of an image (own)
abbrev pub image_bytes : ImageParts → List ℕ
image_bytes image =
    codes "PTKI"
    ++ (spelled 1
    ++ (spelled image.entry
    ++ (spelled (length image.text)
    ++ (spelled (length image.«data»)
    ++ (spelled image.bss
    ++ (image.text ++ image.«data»))))))
