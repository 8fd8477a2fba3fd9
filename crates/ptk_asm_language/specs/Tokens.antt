-- The tokens of a line.
use Rattle.std.specs.Prelude.{ℕ, ◌+◌, ◌-◌, ◌*◌, Bool, false, ◌&&◌, ◌||◌, List, [], ◌∷◌, ◌==◌, nat_lt, nat_le, if◌then◌else◌, Option, Some, None, option_map, option_and_then, ℤ, pos, neg_ℤ}
use Rattle.std.specs.List.{list_all}
use Rattle.ptk_asm_language.specs.Lines.{onto_first}

-- a token: a name, the value of a number, or one of , ( ) : (own)
pub data Token : Type 0 where
  Name : List ℕ → Token
  Number : ℤ → Token
  Mark : ℕ → Token

-- ---- characters

-- the character lies between these two, or is one of them (ASCII)
abbrev pub between : ℕ → ℕ → ℕ → Bool
between low high c = nat_le low c && nat_le c high

-- 0 to 9 (ASCII)
unfoldable pub is_digit : ℕ → Bool
is_digit c = between 48 57 c

-- a to z and A to Z (ASCII)
unfoldable pub is_letter : ℕ → Bool
is_letter c = between 97 122 c || between 65 90 c

-- a letter, _ or . (own)
unfoldable pub is_first : ℕ → Bool
is_first c = is_letter c || (c == 95 || c == 46)

-- a character of names and numbers (own)
unfoldable pub is_run : ℕ → Bool
is_run c = is_first c || is_digit c

-- a blank or a tab (ASCII)
unfoldable pub is_blank : ℕ → Bool
is_blank c = c == 32 || c == 9

-- one of , ( ) : (own)
unfoldable pub is_mark : ℕ → Bool
is_mark c = (c == 44 || c == 40) || (c == 41 || c == 58)

-- ---- pieces

-- the line begins with a character of names and numbers (own)
abbrev pub starts_run : List ℕ → Bool
starts_run [] = false
starts_run (c ∷ cs) = is_run c

-- the character belongs to the token that begins just after it: in a run, and for a - just before a run (own)
abbrev pub joins : ℕ → List ℕ → Bool
joins c cs = (is_run c || c == 45) && starts_run cs

-- the pieces between blanks: each run, with a - just before it, and each other character alone (own)
abbrev pub pieces : List ℕ → List (List ℕ)
pieces [] = []
pieces (c ∷ cs) =
    if is_blank c then pieces cs
    else (if joins c cs then onto_first c (pieces cs) else (c ∷ []) ∷ pieces cs)

-- ---- numbers

-- the value of a digit, None for another character (ASCII)
unfoldable pub digit : ℕ → Option ℕ
digit c =
    if is_digit c then Some (c - 48)
    else (if between 97 102 c then Some (c - 87)
    else (if between 65 70 c then Some (c - 55)
    else None))

-- the value of a digit of a base, None for another character (own)
unfoldable pub digit_of : ℕ → ℕ → Option ℕ
digit_of base c = option_and_then (λ d. if nat_lt d base then Some d else None) (digit c)

-- the number that n and digits of a base behind it spell, None at another character (own)
abbrev pub spelled_on : ℕ → ℕ → List ℕ → Option ℕ
spelled_on base n [] = Some n
spelled_on base n (c ∷ cs) = option_and_then (λ d. spelled_on base (n * base + d) cs) (digit_of base c)

-- the number that digits spell, None where there is none (own)
abbrev pub spelled : ℕ → List ℕ → Option ℕ
spelled base [] = None
spelled base (d ∷ ds) = spelled_on base 0 (d ∷ ds)

-- decimal, or 0x and hexadecimal digits (own)
abbrev pub magnitude : List ℕ → Option ℕ
magnitude (c ∷ d ∷ ds) = if c == 48 && d == 120 then spelled 16 ds else spelled 10 (c ∷ d ∷ ds)
magnitude ds = spelled 10 ds

-- a magnitude with an optional - before it (own)
abbrev pub number : List ℕ → Option ℤ
number [] = None
number (c ∷ cs) = if c == 45 then option_map (λ n. neg_ℤ (pos n)) (magnitude cs) else option_map pos (magnitude (c ∷ cs))

-- ---- tokens

-- a letter, _ or ., then letters, digits, _ and . (own)
abbrev pub is_name : List ℕ → Bool
is_name [] = false
is_name (c ∷ cs) = is_first c && list_all is_run cs

-- a piece that is a mark, or else a name (own)
abbrev pub mark_or_name : List ℕ → Option Token
mark_or_name [] = None
mark_or_name (c ∷ []) = if is_mark c then Some (Mark c) else (if is_first c then Some (Name (c ∷ [])) else None)
mark_or_name piece = if is_name piece then Some (Name piece) else None

-- the number, where there is one, else the other token (own)
abbrev pub number_or : Option Token → Option ℤ → Option Token
number_or other (Some n) = Some (Number n)
number_or other None = other

-- the token that a piece is, None for a fault of tokens (own)
abbrev pub token : List ℕ → Option Token
token piece = number_or (mark_or_name piece) (number piece)

-- the tokens with one before them, None where one is none (own)
abbrev pub with_front : Option Token → Option (List Token) → Option (List Token)
with_front (Some t) (Some ts) = Some (t ∷ ts)
with_front t ts = None

-- the tokens that pieces are, None where one is none (own)
abbrev pub all_tokens : List (List ℕ) → Option (List Token)
all_tokens [] = Some []
all_tokens (piece ∷ rest) = with_front (token piece) (all_tokens rest)

-- the tokens of a line, None where a piece is none (own)
abbrev pub tokens_of : List ℕ → Option (List Token)
tokens_of line = all_tokens (pieces line)
