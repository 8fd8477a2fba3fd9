-- Where the tokens of a line stand in it, in bytes from its beginning.
use Rattle.std.specs.Prelude.{ℕ, suc, ◌-◌, Bool, ◌||◌, List, [], ◌∷◌, length, if◌then◌else◌, is_some, Result, Ok, Err}
use Rattle.std.proofs.Math.ListN.{get_or}
use Rattle.ptk_asm_language.specs.declared.place.Extent.{Extent}
use Rattle.ptk_asm_language.specs.declared.statement.Slot.{Slot}
use Rattle.ptk_asm_language.specs.declared.fault.FaultKind.{FaultKind}
use Rattle.ptk_asm_language.specs.Tokens.{Token, between, is_blank, joins, pieces, token}
use Rattle.ptk_asm_language.specs.Statements.{Operands, operand}

-- ---- pieces

-- what stands behind each piece of a line (own)
abbrev pub behind_pieces : List ℕ → List (List ℕ)
behind_pieces [] = []
behind_pieces (c ∷ cs) = if is_blank c || joins c cs then behind_pieces cs else cs ∷ behind_pieces cs

-- the bytes of a piece in a line, by what stands behind it (own)
abbrev pub extent_of : List ℕ → List ℕ → List ℕ → Extent
extent_of line piece rest = record { from = length line - length rest - length piece; to = length line - length rest }

-- the bytes of pieces in a line, by what stands behind each (own)
abbrev pub extents_of : List ℕ → List (List ℕ) → List (List ℕ) → List Extent
extents_of line (piece ∷ ps) (rest ∷ rs) = extent_of line piece rest ∷ extents_of line ps rs
extents_of line ps rs = []

-- the bytes of each token of a line (own)
abbrev pub places_of : List ℕ → List Extent
places_of line = extents_of line (pieces line) (behind_pieces line)

-- ---- a piece that is no token

-- a byte of a character that is not its first (UTF-8, RFC 3629)
unfoldable pub is_continuation : ℕ → Bool
is_continuation c = between 128 191 c

-- what stands behind the rest of a character (UTF-8, RFC 3629)
abbrev pub behind_character : List ℕ → List ℕ
behind_character [] = []
behind_character (c ∷ cs) = if is_continuation c then behind_character cs else c ∷ cs

-- the bytes of a piece, with the rest of its last character (own)
abbrev pub whole_extent : List ℕ → List ℕ → List ℕ → Extent
whole_extent line piece rest = record (extent_of line piece rest) { to = length line - length (behind_character rest) }

-- no bytes (own)
abbrev pub nowhere : Extent
nowhere = record { from = 0; to = 0 }

-- the bytes of the first piece that is no token, by what stands behind each (own)
abbrev pub first_wrong : List ℕ → List (List ℕ) → List (List ℕ) → Extent
first_wrong line (piece ∷ ps) (rest ∷ rs) = if is_some (token piece) then first_wrong line ps rs else whole_extent line piece rest
first_wrong line ps rs = nowhere

-- the bytes of the first piece of a line that is no token (own)
abbrev pub wrong_place : List ℕ → Extent
wrong_place line = first_wrong line (pieces line) (behind_pieces line)

-- ---- tokens by their numbers

-- no bytes, at the end of a line's code (own)
abbrev pub end_at : ℕ → Extent
end_at n = record { from = n; to = n }

-- the bytes of the token of this number, counted from 0; the end of the line's code where there is none (own)
abbrev pub place_at : List Extent → ℕ → ℕ → Extent
place_at places n end = get_or places n (end_at end)

-- the bytes of the last token (own)
abbrev pub last_place : List Extent → Extent
last_place places = get_or places (length places - 1) nowhere

-- one more than what the rest gives, where there is no fault (own)
abbrev pub counted : {A : Type 0} → Result A FaultKind → (A → ℕ) → ℕ
counted (Ok x) f = suc (f x)
counted (Err e) f = 0

-- how many tokens from the left are right in these places (own)
abbrev pub operand_index : Operands → List Slot → List Token → ℕ
operand_index o (s ∷ ss) (t ∷ ts) = counted (operand o s t) (λ more. operand_index more ss ts)
operand_index o ss ts = 0
