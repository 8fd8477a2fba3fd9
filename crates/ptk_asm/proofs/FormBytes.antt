-- The bytes of a form as words, and how many they are.
use Rattle.std.proofs.Common.{◌≡◌, ℕ, Bool, true, false, List, ◌++◌, length, map, Some, refl, sym, ap, subst, ◌∙◌, append_assoc, ℤ, nat_abs, replicate}
use Rattle.std.proofs.lemmas.List.{length-replicate, append-nil}
use Rattle.ptk_asm_language.specs.declared.statement.Form.{Form}
use Rattle.ptk_asm_language.specs.declared.statement.Form.TheVariants as form
use Rattle.ptk_asm_language.specs.Statements.{Value, Given, instructions_of, bytes_of, size_of, is_short}
use Rattle.ptk_asm.specs.Emitting.{word_bytes, words_in, data_bytes, writes_data, DecodesToWritten}
use Rattle.ptk_rv32i_code.specs.declared.instr.Instr.{Instr}
use Rattle.ptk_rv32i_code.specs.Coding.{decoded}

-- a form that is no directive writes the words of its instructions
pub bytes_words : (f : Form) (rs : List ℕ) (n : ℤ) → writes_data f ≡ false → bytes_of f rs n ≡ word_bytes (instructions_of f rs n)
bytes_words (form.Within s) rs n other = refl
bytes_words form.Word rs n other = absurd (cc)
bytes_words form.Byte rs n other = absurd (cc)
bytes_words form.Space rs n other = absurd (cc)
bytes_words (form.WithImmediate op) rs n other = refl
bytes_words (form.Shift op) rs n other = refl
bytes_words (form.WithRegister op) rs n other = refl
bytes_words (form.Load k) rs n other = refl
bytes_words (form.Store k) rs n other = refl
bytes_words (form.Branch t) rs n other = refl
bytes_words form.Jalr rs n other = refl
bytes_words form.Jal rs n other = refl
bytes_words form.Lui rs n other = refl
bytes_words form.Auipc rs n other = refl
bytes_words form.Ecall rs n other = refl
bytes_words form.Ebreak rs n other = refl
bytes_words form.Fence rs n other = refl
bytes_words form.Nop rs n other = refl
bytes_words form.Move rs n other = refl
bytes_words form.Jump rs n other = refl
bytes_words form.JumpRegister rs n other = refl
bytes_words form.Return rs n other = refl
bytes_words form.Call rs n other = refl
bytes_words form.LoadValue rs n other = refl
bytes_words form.LoadAddress rs n other = refl

-- a form's bytes are those of a directive, and the words of its instructions
pub bytes_split : (f : Form) (rs : List ℕ) (n : ℤ) → bytes_of f rs n ≡ data_bytes f n ++ word_bytes (instructions_of f rs n)
bytes_split (form.Within s) rs n = refl
bytes_split form.Word rs n = refl
bytes_split form.Byte rs n = refl
bytes_split form.Space rs n = sym (append-nil (replicate (nat_abs n) 0))
bytes_split (form.WithImmediate op) rs n = refl
bytes_split (form.Shift op) rs n = refl
bytes_split (form.WithRegister op) rs n = refl
bytes_split (form.Load k) rs n = refl
bytes_split (form.Store k) rs n = refl
bytes_split (form.Branch t) rs n = refl
bytes_split form.Jalr rs n = refl
bytes_split form.Jal rs n = refl
bytes_split form.Lui rs n = refl
bytes_split form.Auipc rs n = refl
bytes_split form.Ecall rs n = refl
bytes_split form.Ebreak rs n = refl
bytes_split form.Fence rs n = refl
bytes_split form.Nop rs n = refl
bytes_split form.Move rs n = refl
bytes_split form.Jump rs n = refl
bytes_split form.JumpRegister rs n = refl
bytes_split form.Return rs n = refl
bytes_split form.Call rs n = refl
bytes_split form.LoadValue rs n = refl
bytes_split form.LoadAddress rs n = refl

-- the law of a form, from that of its instructions
pub decode_written : (f : Form) (rs : List ℕ) (n : ℤ) (few : List Instr) → writes_data f ≡ false → few ≡ instructions_of f rs n
    → map decoded (words_in (word_bytes few)) ≡ map Some few → DecodesToWritten f rs n
decode_written f rs n few other e h =
    let written : map decoded (words_in (word_bytes (instructions_of f rs n))) ≡ map Some (instructions_of f rs n) =
    subst (λ (is : List Instr). map decoded (words_in (word_bytes is)) ≡ map Some is) e h in
    ap (λ (bytes : List ℕ). map decoded (words_in bytes)) (bytes_words f rs n other) ∙ written

-- a form's bytes behind a list, in two steps
pub pushed_both : (f : Form) (rs : List ℕ) (n : ℤ) (few : List Instr) (before middle after : List ℕ) → few ≡ instructions_of f rs n
    → middle ≡ before ++ data_bytes f n → after ≡ middle ++ word_bytes few → after ≡ before ++ bytes_of f rs n
pushed_both f rs n few before middle after e first second =
    second ∙ ap (λ (bytes : List ℕ). bytes ++ word_bytes few) first
    ∙ append_assoc before (data_bytes f n) (word_bytes few)
    ∙ ap (λ (is : List Instr). before ++ (data_bytes f n ++ word_bytes is)) e
    ∙ ap (λ (bytes : List ℕ). before ++ bytes) (sym (bytes_split f rs n))

-- how long a form is depends on its number (own)
abbrev pub is_sized : Form → Bool
is_sized form.Space = true
is_sized form.LoadValue = true
is_sized f = false

value_length : (b : Bool) (rs : List ℕ) (n : ℤ) → is_short n ≡ b → length (bytes_of form.LoadValue rs n) ≡ size_of form.LoadValue (Given n)
value_length true rs n short = rw short refl
value_length false rs n long = rw long refl

-- the bytes of a form with a number are as many as the form takes
pub bytes-length_given : (f : Form) (rs : List ℕ) (n : ℤ) → length (bytes_of f rs n) ≡ size_of f (Given n)
bytes-length_given (form.Within s) rs n = refl
bytes-length_given form.Word rs n = refl
bytes-length_given form.Byte rs n = refl
bytes-length_given form.Space rs n = length-replicate (nat_abs n) 0
bytes-length_given (form.WithImmediate op) rs n = refl
bytes-length_given (form.Shift op) rs n = refl
bytes-length_given (form.WithRegister op) rs n = refl
bytes-length_given (form.Load k) rs n = refl
bytes-length_given (form.Store k) rs n = refl
bytes-length_given (form.Branch t) rs n = refl
bytes-length_given form.Jalr rs n = refl
bytes-length_given form.Jal rs n = refl
bytes-length_given form.Lui rs n = refl
bytes-length_given form.Auipc rs n = refl
bytes-length_given form.Ecall rs n = refl
bytes-length_given form.Ebreak rs n = refl
bytes-length_given form.Fence rs n = refl
bytes-length_given form.Nop rs n = refl
bytes-length_given form.Move rs n = refl
bytes-length_given form.Jump rs n = refl
bytes-length_given form.JumpRegister rs n = refl
bytes-length_given form.Return rs n = refl
bytes-length_given form.Call rs n = refl
bytes-length_given form.LoadValue rs n = value_length (is_short n) rs n refl
bytes-length_given form.LoadAddress rs n = refl

-- the bytes of another form are as many as the form takes, whatever its number or label
pub bytes-length_any : (f : Form) (rs : List ℕ) (n : ℤ) (v : Value) → is_sized f ≡ false → length (bytes_of f rs n) ≡ size_of f v
bytes-length_any (form.Within s) rs n v other = refl
bytes-length_any form.Word rs n v other = refl
bytes-length_any form.Byte rs n v other = refl
bytes-length_any form.Space rs n v other = absurd (cc)
bytes-length_any (form.WithImmediate op) rs n v other = refl
bytes-length_any (form.Shift op) rs n v other = refl
bytes-length_any (form.WithRegister op) rs n v other = refl
bytes-length_any (form.Load k) rs n v other = refl
bytes-length_any (form.Store k) rs n v other = refl
bytes-length_any (form.Branch t) rs n v other = refl
bytes-length_any form.Jalr rs n v other = refl
bytes-length_any form.Jal rs n v other = refl
bytes-length_any form.Lui rs n v other = refl
bytes-length_any form.Auipc rs n v other = refl
bytes-length_any form.Ecall rs n v other = refl
bytes-length_any form.Ebreak rs n v other = refl
bytes-length_any form.Fence rs n v other = refl
bytes-length_any form.Nop rs n v other = refl
bytes-length_any form.Move rs n v other = refl
bytes-length_any form.Jump rs n v other = refl
bytes-length_any form.JumpRegister rs n v other = refl
bytes-length_any form.Return rs n v other = refl
bytes-length_any form.Call rs n v other = refl
bytes-length_any form.LoadValue rs n v other = absurd (cc)
bytes-length_any form.LoadAddress rs n v other = refl
