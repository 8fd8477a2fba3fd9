-- Spelled statements are read back.
use Rattle.std.proofs.Common.{◌≡◌, ℕ, Bool, true, false, List, [], ◌∷◌, ◌++◌, Option, Some, None, Ok, refl, ap, ◌∙◌, append_assoc, ℤ}
use Rattle.std.specs.Prelude.{unwrap_or}
use Rattle.std.specs.List.{list_all}
use Rattle.ptk_asm_language.specs.declared.statement.Slot.{Slot}
use Rattle.ptk_asm_language.specs.declared.statement.Slot.TheVariants as slot
use Rattle.ptk_asm_language.specs.declared.statement.Form.{Form}
use Rattle.ptk_asm_language.specs.declared.statement.Form.TheVariants as form
use Rattle.ptk_asm_language.specs.Lines.{code_of}
use Rattle.ptk_asm_language.specs.Tokens.{Token, Name, is_run, is_first, is_letter, is_digit, is_blank, starts_run, pieces, tokens_of, all_tokens, with_front}
use Rattle.ptk_asm_language.specs.Statements.{Value, Nothing, no_operands, slots_of}
use Rattle.ptk_asm_language.specs.Source.{Statement, label_in, statement_in, statement_with, statement_by, stated, line_tokens, label_of, statement_of}
use Rattle.ptk_disasm.specs.Spelling.{Stated, mnemonic, value_text, operands_text, behind, statement_text, line_text}
use Rattle.ptk_disasm.proofs.Names.{IsName, mnemonic-name, mnemonic-form}
use Rattle.ptk_disasm.proofs.Quiet.{is_quiet, run-quiet, both-quiet, code-kept}
use Rattle.ptk_disasm.proofs.Runs.{pieces-of_run}
use Rattle.ptk_disasm.proofs.Operands.{Fits, tokens_for, valued, joined_with, operands-tokens, operands-read, operands-quiet}

-- the operands of a statement fit the places of its form
pub record IsSpelled (s : Statement) : Type 0 where
  pub number : ℤ
  pub fits : Fits (value_text s.form s.operands.value) number (slots_of s.form) s.operands.registers
  pub value : valued Nothing number (slots_of s.form) ≡ s.operands.value

-- ---- tokens

behind_starts : (slots : List Slot) (text : List ℕ) → starts_run (behind slots text ++ 32 ∷ []) ≡ false
unfolding is_run is_first is_letter is_digit
behind_starts [] text = refl
behind_starts (s ∷ slots) text = refl

behind_pieces : (value : List ℕ) (slots : List Slot) (rs : List ℕ) → pieces (behind slots (operands_text value slots rs) ++ 32 ∷ []) ≡ pieces (operands_text value slots rs ++ 32 ∷ [])
unfolding is_blank
behind_pieces value [] rs = refl
behind_pieces value (s ∷ slots) rs = refl

name_tokens : (name value : List ℕ) (slots : List Slot) (rs : List ℕ) (ts : List Token) → IsName name → tokens_of (operands_text value slots rs ++ 32 ∷ []) ≡ Some ts
    → tokens_of ((name ++ behind slots (operands_text value slots rs)) ++ 32 ∷ []) ≡ Some (Name name ∷ ts)
name_tokens name value slots rs ts is later =
    let text : List ℕ = behind slots (operands_text value slots rs) in
    ap tokens_of (append_assoc name text (32 ∷ []))
    ∙ ap all_tokens (pieces-of_run name (text ++ 32 ∷ []) is.run is.some (behind_starts slots (operands_text value slots rs)))
    ∙ ap (λ (o : Option Token). with_front o (tokens_of (text ++ 32 ∷ []))) is.named
    ∙ ap (λ (ps : List (List ℕ)). with_front (Some (Name name)) (all_tokens ps)) (behind_pieces value slots rs)
    ∙ ap (with_front (Some (Name name))) later

pub statement-tokens : (s : Statement) (is : IsSpelled s) → tokens_of (statement_text s ++ 32 ∷ []) ≡ Some (Name (mnemonic s.form) ∷ tokens_for is.number (slots_of s.form) s.operands.registers)
statement-tokens s is =
    name_tokens (mnemonic s.form) (value_text s.form s.operands.value) (slots_of s.form) s.operands.registers (tokens_for is.number (slots_of s.form) s.operands.registers)
    (mnemonic-name s.form) (operands-tokens (value_text s.form s.operands.value) is.number (slots_of s.form) s.operands.registers is.fits)

behind_quiet : (slots : List Slot) (text : List ℕ) → list_all is_quiet text ≡ true → list_all is_quiet (behind slots text) ≡ true
behind_quiet [] text h = refl
behind_quiet (s ∷ slots) text h = h

pub statement-quiet : (s : Statement) (is : IsSpelled s) → list_all is_quiet (statement_text s) ≡ true
statement-quiet s is =
    both-quiet (mnemonic s.form) (behind (slots_of s.form) (operands_text (value_text s.form s.operands.value) (slots_of s.form) s.operands.registers)) (run-quiet (mnemonic s.form) ((mnemonic-name s.form).run))
    (behind_quiet (slots_of s.form) (operands_text (value_text s.form s.operands.value) (slots_of s.form) s.operands.registers) (operands-quiet (value_text s.form s.operands.value) is.number (slots_of s.form) s.operands.registers is.fits))

-- ---- the statement that the tokens are

-- a mark stands first
abbrev pub begins_mark : List Slot → Bool
begins_mark (slot.Mark m ∷ slots) = true
begins_mark slots = false

pub no_mark : (f : Form) → begins_mark (slots_of f) ≡ false
no_mark (form.Within s) = refl
no_mark form.Word = refl
no_mark form.Byte = refl
no_mark form.Space = refl
no_mark (form.WithImmediate op) = refl
no_mark (form.Shift op) = refl
no_mark (form.WithRegister op) = refl
no_mark (form.Load k) = refl
no_mark (form.Store k) = refl
no_mark (form.Branch t) = refl
no_mark form.Jalr = refl
no_mark form.Jal = refl
no_mark form.Lui = refl
no_mark form.Auipc = refl
no_mark form.Ecall = refl
no_mark form.Ebreak = refl
no_mark form.Fence = refl
no_mark form.Nop = refl
no_mark form.Move = refl
no_mark form.Jump = refl
no_mark form.JumpRegister = refl
no_mark form.Return = refl
no_mark form.Call = refl
no_mark form.LoadValue = refl
no_mark form.LoadAddress = refl

pub no_label : (name : List ℕ) (n : ℤ) (slots : List Slot) (rs : List ℕ) → begins_mark slots ≡ false → label_in (Name name ∷ tokens_for n slots rs) ≡ None
no_label name n [] rs h = refl
no_label name n (slot.Mark m ∷ slots) rs h = absurd (cc)
no_label name n (slot.Register ∷ slots) [] h = refl
no_label name n (slot.Register ∷ slots) (r ∷ rs) h = refl
no_label name n (slot.Number a b ∷ slots) rs h = refl
no_label name n (slot.NumberOrLabel a b ∷ slots) rs h = refl
no_label name n (slot.Target a b ∷ slots) rs h = refl
no_label name n (slot.Label ∷ slots) rs h = refl

pub all_statement : (name : List ℕ) (n : ℤ) (slots : List Slot) (rs : List ℕ) → begins_mark slots ≡ false → statement_in (Name name ∷ tokens_for n slots rs) ≡ Name name ∷ tokens_for n slots rs
all_statement name n [] rs h = refl
all_statement name n (slot.Mark m ∷ slots) rs h = absurd (cc)
all_statement name n (slot.Register ∷ slots) [] h = refl
all_statement name n (slot.Register ∷ slots) (r ∷ rs) h = refl
all_statement name n (slot.Number a b ∷ slots) rs h = refl
all_statement name n (slot.NumberOrLabel a b ∷ slots) rs h = refl
all_statement name n (slot.Target a b ∷ slots) rs h = refl
all_statement name n (slot.Label ∷ slots) rs h = refl

same_statement : (s : Statement) (v : Value) → v ≡ s.operands.value → statement_with s.form (Ok (joined_with no_operands s.operands.registers v)) ≡ Some s
same_statement s v e = ap (λ (x : Value). Some (record { form = s.form; operands = record { registers = s.operands.registers; value = x } })) e

pub stated_same : (s : Statement) (is : IsSpelled s) → stated (Name (mnemonic s.form) ∷ tokens_for is.number (slots_of s.form) s.operands.registers) ≡ Some s
stated_same s is =
    ap (statement_by (Name (mnemonic s.form) ∷ tokens_for is.number (slots_of s.form) s.operands.registers)) (mnemonic-form s.form)
    ∙ ap (statement_with s.form) (operands-read (value_text s.form s.operands.value) is.number (slots_of s.form) s.operands.registers no_operands is.fits)
    ∙ same_statement s (valued Nothing is.number (slots_of s.form)) is.value

-- ---- lines

line_code : (s : Statement) (is : IsSpelled s) (comment : List ℕ) → code_of (line_text (Stated s comment) ++ 10 ∷ []) ≡ statement_text s ++ 32 ∷ []
line_code s is [] =
    ap code_of (append_assoc (statement_text s) (32 ∷ 35 ∷ 32 ∷ []) (10 ∷ []))
    ∙ code-kept (statement_text s) 10 [] (statement-quiet s is)
line_code s is (x ∷ comment) =
    ap code_of (append_assoc (statement_text s) (32 ∷ 35 ∷ 32 ∷ x ∷ comment) (10 ∷ []))
    ∙ code-kept (statement_text s) x (comment ++ 10 ∷ []) (statement-quiet s is)

pub line-tokens : (s : Statement) (is : IsSpelled s) (comment : List ℕ)
    → tokens_of (code_of (line_text (Stated s comment) ++ 10 ∷ [])) ≡ Some (Name (mnemonic s.form) ∷ tokens_for is.number (slots_of s.form) s.operands.registers)
line-tokens s is comment = ap tokens_of (line_code s is comment) ∙ statement-tokens s is

-- a line with a statement has this statement and no label
pub line-read : (s : Statement) (is : IsSpelled s) (comment : List ℕ)
    → (statement_of (line_text (Stated s comment) ++ 10 ∷ []) ≡ Some s) × (label_of (line_text (Stated s comment) ++ 10 ∷ []) ≡ None)
line-read s is comment =
    let ts : List Token = tokens_for is.number (slots_of s.form) s.operands.registers in
    let is_tokens : line_tokens (line_text (Stated s comment) ++ 10 ∷ []) ≡ Name (mnemonic s.form) ∷ ts = ap (λ (o : Option (List Token)). unwrap_or o []) (line-tokens s is comment) in (
      ap (λ (t : List Token). stated (statement_in t)) is_tokens
          ∙ ap stated (all_statement (mnemonic s.form) is.number (slots_of s.form) s.operands.registers (no_mark s.form))
          ∙ stated_same s is,
      ap label_in is_tokens ∙ no_label (mnemonic s.form) is.number (slots_of s.form) s.operands.registers (no_mark s.form),
    )
