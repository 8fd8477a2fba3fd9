-- What the code's tokens and faults tell.
use Rattle.std.specs.Prelude.{ℕ, ◌≡◌, ◌^◌, List, Option, Some, None, Result, Err, unwrap_or, map, min, ℤ, pos}
use Rattle.ptk_asm_language.specs.declared.token.Token as written
use Rattle.ptk_asm_language.specs.declared.token.Token.TheVariants as code
use Rattle.ptk_asm_language.specs.declared.token.Spanned.{Spanned}
use Rattle.ptk_asm_language.specs.declared.place.Extent.{Extent}
use Rattle.ptk_asm_language.specs.declared.fault.LineFault.{LineFault}
use Rattle.ptk_asm_language.specs.declared.fault.FaultKind.{FaultKind}
use Rattle.ptk_asm_language.specs.declared.fault.FaultKind.TheVariants as fault
use Rattle.ptk_asm_language.specs.Tokens.{Token, Name, Number, Mark, number, tokens_of}

-- the value of the bytes of a number
abbrev pub value_of : List ℕ → ℤ
value_of text = unwrap_or (number text) (pos 0)

-- the token that a token of the code is
abbrev pub view : written.Token → Token
view (code.Name text) = Name text.now
view (code.Number text) = Number (value_of text.now)
view (code.Mark m) = Mark m

-- each token of a line as the definitions see it
abbrev pub views : List Spanned → List Token
views tokens = map (λ (s : Spanned). view s.token) tokens

-- the bytes of a token of the code
abbrev pub spot : Spanned → Extent
spot s = record { from = s.from; to = s.to }

-- the bytes of each token of a line
abbrev pub spots : List Spanned → List Extent
spots tokens = map spot tokens

-- the bytes that a fault of the code names
abbrev pub fault_spot : LineFault → Extent
fault_spot e = record { from = e.from; to = e.to }

-- a fault of tokens, where they are none
abbrev pub fault_unless : Option (List Token) → Option FaultKind
fault_unless (Some ts) = None
fault_unless None = Some fault.Token

-- the fault of tokens in a line
abbrev pub token_fault : List ℕ → Option FaultKind
token_fault line = fault_unless (tokens_of line)

-- what a refusal says: the first fault, or that memory ran out
abbrev pub Refuses : FaultKind → Option FaultKind → Type 0
Refuses fault.Memory found = Unit {0}
Refuses k found = found ≡ Some k

-- what a refusal says where the definition gives a value or its first fault: that fault, or that memory ran out
abbrev pub Answers : {A : Type 0} → FaultKind → Result A FaultKind → Type 0
Answers fault.Memory found = Unit {0}
Answers k found = found ≡ Err k

-- memory ran out, or the fault is at these bytes
abbrev pub IsPlaced : FaultKind → LineFault → Extent → Type 0
IsPlaced fault.Memory e place = Unit {0}
IsPlaced k e place = fault_spot e ≡ place

-- a number that the code keeps: numbers above 2 ^ 40 are out of every range
unfoldable pub capped : ℕ → ℕ
capped n = min n (2 ^ 40)
