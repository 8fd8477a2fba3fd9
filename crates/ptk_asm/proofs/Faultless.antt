-- A statement without a fault.
use Rattle.std.proofs.Common.{◌≡◌, ℕ, ◌%◌, Bool, true, false, List, [], ◌∷◌, Option, Some, None, refl, sym, ap, subst, ◌∙◌, ℤ}
use Rattle.std.specs.Prelude.{Result, Ok, Err}
use Rattle.ptk_asm_language.specs.declared.statement.Section.TheVariants as section
use Rattle.ptk_asm_language.specs.declared.statement.Form.{Form}
use Rattle.ptk_asm_language.specs.declared.statement.Form.TheVariants as form
use Rattle.ptk_asm_language.specs.declared.statement.Slot.{Slot}
use Rattle.ptk_asm_language.specs.declared.statement.Slot.TheVariants as slot
use Rattle.ptk_asm_language.specs.declared.fault.FaultKind.{FaultKind}
use Rattle.ptk_asm_language.specs.declared.fault.FaultKind.TheVariants as fault
use Rattle.ptk_asm_language.specs.declared.place.Place.{Place}
use Rattle.ptk_asm_language.specs.Tokens.{Token, Name, Number, Mark}
use Rattle.ptk_asm_language.specs.Statements.{Value, Nothing, Given, Labelled, Operands, operand, operands_with, operands_of, with_value, no_operands, slots_of, stands_in, size_of, is_short, is_within}
use Rattle.ptk_asm_language.specs.Source.{Statement, form_in, stated, statement_fault}
use Rattle.ptk_asm.proofs.FormBytes.{is_sized}
use Rattle.ptk_asm.proofs.States.{stated-ok}

-- ---- its parts

-- the form of a statement, fence for none (own)
abbrev form_shown : Option Statement → Form
form_shown (Some s) = s.form
form_shown None = form.Fence

-- the operands of a statement, none for none (own)
abbrev operands_shown : Option Statement → Operands
operands_shown (Some s) = s.operands
operands_shown None = no_operands

stated-no_form : (t : Token) (ts : List Token) → form_in (t ∷ ts) ≡ None → stated (t ∷ ts) ≡ None
stated-no_form t ts e = simp e

stated-faulty : (t : Token) (ts : List Token) (f : Form) (k : FaultKind) → form_in (t ∷ ts) ≡ Some f → operands_of (slots_of f) ts ≡ Err k → stated (t ∷ ts) ≡ None
stated-faulty t ts f k e p = simp (e, p)

-- the form that the first token names, and the operands that the others give
pub stated-parts : (t : Token) (ts : List Token) (s : Statement) → stated (t ∷ ts) ≡ Some s
    → (form_in (t ∷ ts) ≡ Some s.form) × (operands_of (slots_of s.form) ts ≡ Ok s.operands)
stated-parts t ts s is = by_form (form_in (t ∷ ts)) refl
  where
    by_operands : (f : Form) → form_in (t ∷ ts) ≡ Some f → (found : Result Operands FaultKind) → operands_of (slots_of f) ts ≡ found
        → (form_in (t ∷ ts) ≡ Some s.form) × (operands_of (slots_of s.form) ts ≡ Ok s.operands)
    by_operands f e (Ok o) p =
        let same : Some (record { form = f; operands = o }) ≡ Some s = sym (stated-ok t ts f o e p) ∙ is in
        let form_same : f ≡ s.form = ap form_shown same in
        let operands_same : o ≡ s.operands = ap operands_shown same in
        (e ∙ ap Some form_same, subst (λ (g : Form). operands_of (slots_of g) ts ≡ Ok s.operands) form_same (p ∙ ap Ok operands_same))
    by_operands f e (Err k) p =
        let never : ◌≡◌ {A = Option Statement} None (Some s) = sym (stated-faulty t ts f k e p) ∙ is in absurd (cc)

    by_form : (f : Option Form) → form_in (t ∷ ts) ≡ f → (form_in (t ∷ ts) ≡ Some s.form) × (operands_of (slots_of s.form) ts ≡ Ok s.operands)
    by_form None e = let never : ◌≡◌ {A = Option Statement} None (Some s) = sym (stated-no_form t ts e) ∙ is in absurd (cc)
    by_form (Some f) e = by_operands f e (operands_of (slots_of f) ts) refl

-- ---- its section

fault-section : (at : Place) (t : Token) (ts : List Token) (f : Form) → form_in (t ∷ ts) ≡ Some f → stands_in f at.section ≡ false → statement_fault at (t ∷ ts) ≡ Some fault.Mnemonic
fault-section at t ts f e s = simp (e, s)

-- a statement without a fault may stand where it stands
pub stated-stands : (at : Place) (ts : List Token) (s : Statement) → statement_fault at ts ≡ None → stated ts ≡ Some s → stands_in s.form at.section ≡ true
stated-stands at [] s none is = absurd (cc)
stated-stands at (t ∷ ts) s none is = by_stand (stands_in s.form at.section) refl
  where
    by_stand : (b : Bool) → stands_in s.form at.section ≡ b → stands_in s.form at.section ≡ true
    by_stand true stands = stands
    by_stand false stands =
        let parts = stated-parts t ts s is in
        let never : ◌≡◌ {A = Option FaultKind} (Some fault.Mnemonic) None = sym (fault-section at t ts s.form parts.0 stands) ∙ none in absurd (cc)

-- ---- its size

value_size : (n : ℤ) (b : Bool) → is_short n ≡ b → size_of form.LoadValue (Given n) % 4 ≡ 0
value_size n true e = rw e refl
value_size n false e = rw e refl

-- a statement that may stand in the text is whole words
pub size-whole : (f : Form) (v : Value) → stands_in f section.Text ≡ true → size_of f v % 4 ≡ 0
size-whole (form.Within s) v stands = refl
size-whole form.Word v stands = refl
size-whole form.Byte v stands = absurd (cc)
size-whole form.Space v stands = absurd (cc)
size-whole (form.WithImmediate op) v stands = refl
size-whole (form.Shift op) v stands = refl
size-whole (form.WithRegister op) v stands = refl
size-whole (form.Load k) v stands = refl
size-whole (form.Store k) v stands = refl
size-whole (form.Branch t) v stands = refl
size-whole form.Jalr v stands = refl
size-whole form.Jal v stands = refl
size-whole form.Lui v stands = refl
size-whole form.Auipc v stands = refl
size-whole form.Ecall v stands = refl
size-whole form.Ebreak v stands = refl
size-whole form.Fence v stands = refl
size-whole form.Nop v stands = refl
size-whole form.Move v stands = refl
size-whole form.Jump v stands = refl
size-whole form.JumpRegister v stands = refl
size-whole form.Return v stands = refl
size-whole form.Call v stands = refl
size-whole form.LoadValue Nothing stands = refl
size-whole form.LoadValue (Given n) stands = value_size n (is_short n) refl
size-whole form.LoadValue (Labelled name) stands = refl
size-whole form.LoadAddress v stands = refl

-- ---- its number

-- operands behind the first
peeled : (o : Operands) (s : Slot) (ss : List Slot) (ts : List Token) (p : Operands) → operands_with o (s ∷ ss) ts ≡ Ok p
    → (more : Operands) × ((rest : List Token) × (operands_with more ss rest ≡ Ok p))
peeled o s ss [] p e = absurd (cc)
peeled o s ss (t ∷ ts) p e = by_operand (operand o s t) refl
  where
    by_operand : (found : Result Operands FaultKind) → operand o s t ≡ found → (more : Operands) × ((rest : List Token) × (operands_with more ss rest ≡ Ok p))
    by_operand (Ok more) is = (more, (ts, rw is at e))
    by_operand (Err k) is = let never : Err k ≡ Ok p = rw is at e in absurd (cc)

-- the value of operands, nothing for a fault (own)
abbrev value_shown : Result Operands FaultKind → Value
value_shown (Ok o) = o.value
value_shown (Err k) = Nothing

-- a number alone
number_last : (o : Operands) (below above : ℕ) (ts : List Token) (p : Operands) → operands_with o (slot.Number below above ∷ []) ts ≡ Ok p → (n : ℤ) × (p.value ≡ Given n)
number_last o below above [] p e = absurd (cc)
number_last o below above (Name name ∷ ts) p e = absurd (cc)
number_last o below above (Mark m ∷ ts) p e = absurd (cc)
number_last o below above (Number n ∷ ts) p e = by_fit (is_within below above n) refl
  where
    by_rest : (rest : List Token) → operands_with (with_value o (Given n)) [] rest ≡ Ok p → (m : ℤ) × (p.value ≡ Given m)
    by_rest [] f = (n, sym (ap value_shown f))
    by_rest (t ∷ rest) f = absurd (cc)

    by_fit : (b : Bool) → is_within below above n ≡ b → (m : ℤ) × (p.value ≡ Given m)
    by_fit true is = by_rest ts (rw is at e)
    by_fit false is = let never : Err fault.Range ≡ Ok p = rw is at e in absurd (cc)

operands_number : (f : Form) (ts : List Token) (p : Operands) → is_sized f ≡ true → operands_of (slots_of f) ts ≡ Ok p → (n : ℤ) × (p.value ≡ Given n)
operands_number (form.Within s) ts p sized e = absurd (cc)
operands_number form.Word ts p sized e = absurd (cc)
operands_number form.Byte ts p sized e = absurd (cc)
operands_number form.Space ts p sized e = number_last no_operands 0 1048576 ts p e
operands_number (form.WithImmediate op) ts p sized e = absurd (cc)
operands_number (form.Shift op) ts p sized e = absurd (cc)
operands_number (form.WithRegister op) ts p sized e = absurd (cc)
operands_number (form.Load k) ts p sized e = absurd (cc)
operands_number (form.Store k) ts p sized e = absurd (cc)
operands_number (form.Branch t) ts p sized e = absurd (cc)
operands_number form.Jalr ts p sized e = absurd (cc)
operands_number form.Jal ts p sized e = absurd (cc)
operands_number form.Lui ts p sized e = absurd (cc)
operands_number form.Auipc ts p sized e = absurd (cc)
operands_number form.Ecall ts p sized e = absurd (cc)
operands_number form.Ebreak ts p sized e = absurd (cc)
operands_number form.Fence ts p sized e = absurd (cc)
operands_number form.Nop ts p sized e = absurd (cc)
operands_number form.Move ts p sized e = absurd (cc)
operands_number form.Jump ts p sized e = absurd (cc)
operands_number form.JumpRegister ts p sized e = absurd (cc)
operands_number form.Return ts p sized e = absurd (cc)
operands_number form.Call ts p sized e = absurd (cc)
operands_number form.LoadValue ts p sized e =
    let first = peeled no_operands slot.Register (slot.Mark 44 ∷ slot.Number 2147483648 4294967295 ∷ []) ts p e in
    let second = peeled first.0 (slot.Mark 44) (slot.Number 2147483648 4294967295 ∷ []) first.1.0 p first.1.1 in
    number_last second.0 2147483648 4294967295 second.1.0 p second.1.1
operands_number form.LoadAddress ts p sized e = absurd (cc)

-- a statement whose size depends on its number has one
pub stated-number : (ts : List Token) (s : Statement) → is_sized s.form ≡ true → stated ts ≡ Some s → (n : ℤ) × (s.operands.value ≡ Given n)
stated-number [] s sized is = absurd (cc)
stated-number (t ∷ ts) s sized is = operands_number s.form ts s.operands sized (stated-parts t ts s is).1
