-- Symbol tables: their text, and the symbol at an address.
use Rattle.std.specs.Prelude.{ℕ, ◌+◌, ◌-◌, ◌*◌, ◌^◌, Bool, false, ◌&&◌, ◌||◌, List, [], ◌∷◌, ◌++◌, length, take, drop, filter, find, ◌==◌, nat_lt, nat_le, if◌then◌else◌, Option, Some, None, option_map, option_and_then, Result, Ok, Err, codes}
use Rattle.std.specs.Fmt.{digits}
use Rattle.std.specs.List.{concat, list_all}
use Rattle.std.specs.Str.{is_utf8}
use Rattle.ptk_asm_language.specs.Lines.{raw_lines, without_ending}
use Rattle.ptk_asm_language.specs.Tokens.{digit}

-- ---- a line

-- a number with a digit more, None if that is no word (own)
abbrev pub with_digit : ℕ → Option ℕ → Option ℕ
with_digit n None = None
with_digit n (Some d) = if nat_lt (n * 16 + d) (2 ^ 32) then Some (n * 16 + d) else None

-- a number with a digit more, None if there is no digit or that is no word (own)
abbrev pub address_with : ℕ → ℕ → Option ℕ
address_with n c = with_digit n (digit c)

-- the address that digits are after those of a number, None if one is no digit or it is no word (own)
abbrev pub address_behind : ℕ → List ℕ → Option ℕ
address_behind n [] = Some n
address_behind n (c ∷ cs) = option_and_then (λ a. address_behind a cs) (address_with n c)

-- a letter (ASCII)
abbrev pub is_letter : ℕ → Bool
is_letter c = (nat_le 65 c && nat_le c 90) || (nat_le 97 c && nat_le c 122)

-- a visible character (ASCII)
abbrev pub is_visible : ℕ → Bool
is_visible c = nat_le 33 c && nat_le c 126

-- a blank, a letter and a blank (nm)
abbrev pub is_mark : List ℕ → Bool
is_mark (a ∷ b ∷ c ∷ []) = a == 32 && (is_letter b && c == 32)
is_mark marks = false

-- the symbol of a line without its end, which is eight hexadecimal digits, a blank, a letter, a blank, and a name of visible characters: its address and its name (nm)
abbrev pub symbol_in : List ℕ → Option (ℕ × List ℕ)
symbol_in line =
    if nat_lt 11 (length line)
    then (if is_mark (take 3 (drop 8 line))
    then (if list_all is_visible (drop 11 line) then option_map (λ a. (a, drop 11 line)) (address_behind 0 (take 8 line)) else None)
    else None)
    else None

-- ---- a table

-- a symbol before others, or the number of its line if it is none (own)
abbrev pub with_symbol : ℕ → Option (ℕ × List ℕ) → Result (List (ℕ × List ℕ)) ℕ → Result (List (ℕ × List ℕ)) ℕ
with_symbol n None later = Err n
with_symbol n (Some s) (Ok symbols) = Ok (s ∷ symbols)
with_symbol n (Some s) (Err m) = Err m

-- the symbols of lines from a number on, or the number of the first that has none (own)
abbrev pub table_from : ℕ → List (List ℕ) → Result (List (ℕ × List ℕ)) ℕ
table_from n [] = Ok []
table_from n (line ∷ lines) = with_symbol n (symbol_in (without_ending line)) (table_from (n + 1) lines)

-- the symbols of a text, or the number of the first line that has none, counted from 1 (own)
abbrev pub table_of : List ℕ → Result (List (ℕ × List ℕ)) ℕ
table_of text = table_from 1 (raw_lines text)

-- the symbols of a text that was read, none if it is no table (own)
abbrev pub listed : Result (List (ℕ × List ℕ)) ℕ → List (ℕ × List ℕ)
listed (Ok symbols) = symbols
listed (Err n) = []

-- the symbols of a text that is a table, in its order (own)
abbrev pub symbols_of : List ℕ → List (ℕ × List ℕ)
symbols_of text = listed (table_of text)

-- ---- the symbol at an address

-- the earlier of two symbols, the later one if it begins above the earlier (own)
abbrev pub greater_of : ℕ × List ℕ → Option (ℕ × List ℕ) → ℕ × List ℕ
greater_of s None = s
greater_of s (Some t) = if nat_le t.0 s.0 then s else t

-- the symbol that begins last at or below an address, of those that begin there the first of the text (own)
abbrev pub last_below : ℕ → List (ℕ × List ℕ) → Option (ℕ × List ℕ)
last_below a [] = None
last_below a (s ∷ symbols) = if nat_le s.0 a then Some (greater_of s (last_below a symbols)) else last_below a symbols

-- the name of the symbol that begins last at or below an address, and the distance of the address from its beginning (own)
abbrev pub nearest : List (ℕ × List ℕ) → ℕ → Option (List ℕ × ℕ)
nearest symbols a = option_map (λ s. (s.1, a - s.0)) (last_below a symbols)

-- the name of the first symbol of the text at an address, at a distance of 0 (own)
abbrev pub exact : List (ℕ × List ℕ) → ℕ → Option (List ℕ × ℕ)
exact symbols a = option_map (λ s. (s.1, 0)) (find (λ s. s.0 == a) symbols)

-- ---- their text

-- a name, if it is a text (own)
abbrev pub text_in : List ℕ → Option (List ℕ)
text_in name = if is_utf8 name then Some name else None

-- a distance that is not 0, in hexadecimal after a sign (own)
abbrev pub distance_text : ℕ → List ℕ
distance_text n = if n == 0 then [] else codes "+0x" ++ digits 16 false n

-- a name, its visible characters alone, with a distance after it, in angle brackets after a blank (objdump)
abbrev pub bracketed : Option (List ℕ × ℕ) → List ℕ
bracketed None = []
bracketed (Some n) = concat (codes " <" ∷ filter is_visible n.0 ∷ distance_text n.1 ∷ codes ">" ∷ [])

-- the name at an address, if a symbol begins there (own)
abbrev pub name_text : List (ℕ × List ℕ) → ℕ → List ℕ
name_text symbols a = bracketed (exact symbols a)

-- the nearest name at or below an address with the distance from it, if there is one (own)
abbrev pub place_text : List (ℕ × List ℕ) → ℕ → List ℕ
place_text symbols a = bracketed (nearest symbols a)
