-- The operands of a statement, one after the other.
use Rattle.std.proofs.Common.{◌≡◌, ℕ, ◌+◌, ◌<◌, ◌≤◌, List, [], ◌∷◌, length, drop, get_or, refl, sym, ◌∙◌, arith, add-one, length-drop, drop-cons, Result, Ok, Err}
use Rattle.std.proofs.lemmas.Grind.{common_steps}
use Rattle.ptk_asm_language.specs.declared.statement.Slot.{Slot}
use Rattle.ptk_asm_language.specs.declared.statement.Slot.TheVariants as slot
use Rattle.ptk_asm_language.specs.declared.fault.FaultKind.{FaultKind}
use Rattle.ptk_asm_language.specs.declared.fault.FaultKind.TheVariants as fault
use Rattle.ptk_asm_language.specs.declared.token.Spanned.{Spanned}
use Rattle.ptk_asm_language.specs.Statements.{Operands, operand, operands_with}
use Rattle.ptk_asm_language.specs.Reading.{view, views, Answers}

pub operands_more : (o more : Operands) (slots : List Slot) (tokens : List Spanned) (i : ℕ) (s : Slot) (t : Spanned) → i < length slots → i < length tokens
    → s ≡ get_or slots i s → t ≡ get_or tokens i t → operand o s (view t.token) ≡ Ok more
    → operands_with more (drop (i + 1) slots) (views (drop (i + 1) tokens)) ≡ operands_with o (drop i slots) (views (drop i tokens))
operands_more o more slots tokens i s t inside within is_s is_t e =
    rw (add-one, drop-cons slots i s inside, drop-cons tokens i t within, ← is_s, ← is_t, e) refl

pub operands_fault : (o : Operands) (k : FaultKind) (slots : List Slot) (tokens : List Spanned) (i : ℕ) (s : Slot) (t : Spanned) → i < length slots → i < length tokens
    → s ≡ get_or slots i s → t ≡ get_or tokens i t → operand o s (view t.token) ≡ Err k
    → operands_with o (drop i slots) (views (drop i tokens)) ≡ Err k
operands_fault o k slots tokens i s t inside within is_s is_t e =
    rw (drop-cons slots i s inside, drop-cons tokens i t within, ← is_s, ← is_t, e) refl

-- a fault of an operand is that of the statement
pub operands_answer : (k : FaultKind) (o : Operands) (slots : List Slot) (tokens : List Spanned) (i : ℕ) (s : Slot) (t : Spanned) (whole : Result Operands FaultKind)
    → i < length slots → i < length tokens → s ≡ get_or slots i s → t ≡ get_or tokens i t → Answers k (operand o s (view t.token))
    → operands_with o (drop i slots) (views (drop i tokens)) ≡ whole → Answers k whole
operands_answer fault.Memory o slots tokens i s t whole inside within is_s is_t e so_far = tt
operands_answer fault.Token o slots tokens i s t whole inside within is_s is_t e so_far = sym so_far ∙ operands_fault o _ slots tokens i s t inside within is_s is_t e
operands_answer fault.Mnemonic o slots tokens i s t whole inside within is_s is_t e so_far = sym so_far ∙ operands_fault o _ slots tokens i s t inside within is_s is_t e
operands_answer fault.Register o slots tokens i s t whole inside within is_s is_t e so_far = sym so_far ∙ operands_fault o _ slots tokens i s t inside within is_s is_t e
operands_answer fault.Range o slots tokens i s t whole inside within is_s is_t e so_far = sym so_far ∙ operands_fault o _ slots tokens i s t inside within is_s is_t e
operands_answer fault.UnknownLabel o slots tokens i s t whole inside within is_s is_t e so_far = sym so_far ∙ operands_fault o _ slots tokens i s t inside within is_s is_t e
operands_answer fault.DoubledLabel o slots tokens i s t whole inside within is_s is_t e so_far = sym so_far ∙ operands_fault o _ slots tokens i s t inside within is_s is_t e

pub operands_missing : (o : Operands) (slots : List Slot) (tokens : List Spanned) (i : ℕ) → i < length slots → length tokens ≤ i
    → operands_with o (drop i slots) (views (drop i tokens)) ≡ Err fault.Token
operands_missing o slots tokens i inside short =
    let none : drop i tokens ≡ [] = grind (arith, common_steps) in
    rw (drop-cons slots i slot.Register inside, none) refl

extra_step : (o : Operands) (ts : List Spanned) → 0 < length ts → operands_with o [] (views ts) ≡ Err fault.Token
extra_step o [] long = absurd (omega arith)
extra_step o (t ∷ ts) long = refl

pub operands_extra : (o : Operands) (slots : List Slot) (tokens : List Spanned) (i : ℕ) → i ≡ length slots → length slots < length tokens
    → operands_with o (drop i slots) (views (drop i tokens)) ≡ Err fault.Token
operands_extra o slots tokens i ends long =
    let none : drop i slots ≡ [] = grind (arith, common_steps) in
    rw none (extra_step o (drop i tokens) (simp length-drop (omega arith)))

pub operands_end : (o : Operands) (slots : List Slot) (tokens : List Spanned) (i : ℕ) → i ≡ length slots → length tokens ≤ length slots
    → operands_with o (drop i slots) (views (drop i tokens)) ≡ Ok o
operands_end o slots tokens i ends short =
    let none : drop i slots ≡ [] = grind (arith, common_steps) in
    let ended : drop i tokens ≡ [] = grind (arith, common_steps) in
    rw (none, ended) refl
