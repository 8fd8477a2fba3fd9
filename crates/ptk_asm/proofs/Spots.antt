-- The bytes of the token at fault in a line.
use Rattle.std.proofs.Common.{◌≡◌, ℕ, ◌+◌, ◌-◌, ◌<◌, ◌≤◌, length, get_or, drop, take, arith, Bool, true, false, List, [], ◌∷◌, Some, None, Option, suc, refl, sym, ap, subst, ◌∙◌, if◌then◌else◌}
use Rattle.std.specs.Prelude.{Ok, Err, IfSome, is_some}
use Rattle.std.proofs.lemmas.Grind.{common_steps}
use Rattle.std.proofs.lemmas.List.{get_or-drop}
use Rattle.ptk_asm_language.specs.declared.statement.Form.{Form}
use Rattle.ptk_asm_language.specs.declared.place.Place.{Place}
use Rattle.ptk_asm_language.specs.declared.place.Extent.{Extent}
use Rattle.ptk_asm_language.specs.declared.fault.FaultKind.{FaultKind}
use Rattle.ptk_asm_language.specs.declared.fault.FaultKind.TheVariants as fault
use Rattle.ptk_asm_language.specs.declared.fault.LineFault.{LineFault}
use Rattle.ptk_asm_language.specs.declared.token.Spanned.{Spanned}
use Rattle.ptk_asm_language.specs.Places.{place_at, end_at, operand_index}
use Rattle.ptk_asm_language.specs.Reading.{view, views, spot, spots, fault_spot, Refuses, Answers, IsPlaced}
use Rattle.ptk_asm_language.specs.Tokens.{Token}
use Rattle.ptk_asm_language.specs.Statements.{Operands, no_operands, operands_of, slots_of, stands_in}
use Rattle.ptk_asm_language.specs.Source.{form_in, mnemonic_fault, statement_index, label_fault, label_in, label_length, statement_in, is_named, fault_if}
use Rattle.ptk_asm.specs.declared.statements.Label as code_label
use Rattle.ptk_asm.specs.Passing.{State, place_of, index_at, label_name, label_spot, label_place}

-- ---- a statement

-- the bytes of tokens that are some
pub spots_front : (ts : List Spanned) (t : Spanned) → 0 < length ts → t ≡ get_or ts 0 t → spots ts ≡ spot t ∷ spots (drop 1 ts)
spots_front [] t some is_t = absurd (omega arith)
spots_front (u ∷ us) t some is_t = rw is_t refl

-- a fault whose kind is memory may have any bytes
pub placed_memory : (k : FaultKind) (e : LineFault) (x : Extent) → k ≡ fault.Memory → IsPlaced k e x
placed_memory k e x h = subst (λ (j : FaultKind). IsPlaced j e x) (sym h) tt

-- the mnemonic is at fault
first_spot : (k : FaultKind) (e : LineFault) (at : Place) (t : Token) (ts : List Token) (x : Extent) (xs : List Extent) (end : ℕ) → mnemonic_fault at.section (t ∷ ts) (form_in (t ∷ ts)) ≡ Some k → fault_spot e ≡ x
    → fault_spot e ≡ place_at (x ∷ xs) (statement_index at (t ∷ ts)) end
first_spot k e at t ts x xs end h g = rw h g

pub placed_first : (k : FaultKind) (e : LineFault) (at : Place) (t : Token) (ts : List Token) (x : Extent) (xs : List Extent) (end : ℕ) → Refuses k (mnemonic_fault at.section (t ∷ ts) (form_in (t ∷ ts))) → fault_spot e ≡ x
    → IsPlaced k e (place_at (x ∷ xs) (statement_index at (t ∷ ts)) end)
placed_first fault.Memory e at t ts x xs end h g = tt
placed_first fault.Token e at t ts x xs end h g = first_spot _ e at t ts x xs end h g
placed_first fault.Mnemonic e at t ts x xs end h g = first_spot _ e at t ts x xs end h g
placed_first fault.Register e at t ts x xs end h g = first_spot _ e at t ts x xs end h g
placed_first fault.Range e at t ts x xs end h g = first_spot _ e at t ts x xs end h g
placed_first fault.UnknownLabel e at t ts x xs end h g = first_spot _ e at t ts x xs end h g
placed_first fault.DoubledLabel e at t ts x xs end h g = first_spot _ e at t ts x xs end h g

-- an operand is at fault
index-operands : (at : Place) (t : Token) (ts : List Token) (f : Form) (k : FaultKind) → form_in (t ∷ ts) ≡ Some f → stands_in f at.section ≡ true → operands_of (slots_of f) ts ≡ Err k
    → statement_index at (t ∷ ts) ≡ suc (operand_index no_operands (slots_of f) ts)
index-operands at t ts f k e s o = simp (e, s, o)

operand_spot : (k : FaultKind) (e : LineFault) (at : Place) (t : Token) (ts : List Token) (f : Form) (x : Extent) (xs : List Extent) (end : ℕ) → form_in (t ∷ ts) ≡ Some f → stands_in f at.section ≡ true
    → operands_of (slots_of f) ts ≡ Err k → fault_spot e ≡ place_at xs (operand_index no_operands (slots_of f) ts) end → fault_spot e ≡ place_at (x ∷ xs) (statement_index at (t ∷ ts)) end
operand_spot k e at t ts f x xs end is fits found h =
    h ∙ sym (ap (λ (n : ℕ). place_at (x ∷ xs) n end) (index-operands at t ts f k is fits found))

pub placed_operands : (k : FaultKind) (e : LineFault) (at : Place) (t : Token) (ts : List Token) (f : Form) (x : Extent) (xs : List Extent) (end : ℕ) → form_in (t ∷ ts) ≡ Some f → stands_in f at.section ≡ true
    → Answers k (operands_of (slots_of f) ts) → IsPlaced k e (place_at xs (operand_index no_operands (slots_of f) ts) end) → IsPlaced k e (place_at (x ∷ xs) (statement_index at (t ∷ ts)) end)
placed_operands fault.Memory e at t ts f x xs end is fits found h = tt
placed_operands fault.Token e at t ts f x xs end is fits found h = operand_spot _ e at t ts f x xs end is fits found h
placed_operands fault.Mnemonic e at t ts f x xs end is fits found h = operand_spot _ e at t ts f x xs end is fits found h
placed_operands fault.Register e at t ts f x xs end is fits found h = operand_spot _ e at t ts f x xs end is fits found h
placed_operands fault.Range e at t ts f x xs end is fits found h = operand_spot _ e at t ts f x xs end is fits found h
placed_operands fault.UnknownLabel e at t ts f x xs end is fits found h = operand_spot _ e at t ts f x xs end is fits found h
placed_operands fault.DoubledLabel e at t ts f x xs end is fits found h = operand_spot _ e at t ts f x xs end is fits found h

-- the statement is misplaced, which its mnemonic tells
pub placed_misplaced : (at : Place) (t : Token) (ts : List Token) (f : Form) (o : Operands) (x : Extent) (xs : List Extent) (end : ℕ) → form_in (t ∷ ts) ≡ Some f → stands_in f at.section ≡ true
    → operands_of (slots_of f) ts ≡ Ok o → x ≡ place_at (x ∷ xs) (statement_index at (t ∷ ts)) end
placed_misplaced at t ts f o x xs end is fits found =
    let none : statement_index at (t ∷ ts) ≡ 0 = simp (is, fits, found) in
    sym (ap (λ (n : ℕ). place_at (x ∷ xs) n end) none)

-- where a statement's first fault is
pub ruleset statement_places = (placed_first, placed_operands, placed_misplaced)

-- ---- a line

named_if : (b : Bool) (k : FaultKind) → fault_if b fault.DoubledLabel ≡ Some k → b ≡ true
named_if true k h = refl
named_if false k h = cc

label_at : (k : FaultKind) (e : LineFault) (m : State) (ts : List Token) (l : Option code_label.Label) (xs : List Extent) (end : ℕ) → label_fault m.labels (label_in ts) ≡ Some k → label_name l ≡ label_in ts
    → fault_spot e ≡ label_place l → IfSome l (λ (x : code_label.Label). (n : ℕ) → label_spot x ≡ place_at xs 0 n) → fault_spot e ≡ place_at xs (index_at m ts) end
label_at k e m ts None xs end h is g first =
    let never : label_fault m.labels None ≡ Some k = subst (λ (o : Option (List ℕ)). label_fault m.labels o ≡ Some k) (sym is) h in absurd (cc)
label_at k e m ts (Some x) xs end h is g first =
    let named : is_named m.labels (label_in ts) ≡ true = named_if (is_named m.labels (label_in ts)) k h in
    g ∙ first end ∙ sym (ap (λ (b : Bool). place_at xs (if b then 0 else label_length ts + statement_index (place_of m) (statement_in ts)) end) named)

-- the label is at fault
pub placed_label : (k : FaultKind) (e : LineFault) (m : State) (ts : List Token) (l : Option code_label.Label) (xs : List Extent) (end : ℕ) → Refuses k (label_fault m.labels (label_in ts)) → label_name l ≡ label_in ts
    → IsPlaced k e (label_place l) → IfSome l (λ (x : code_label.Label). (n : ℕ) → label_spot x ≡ place_at xs 0 n) → IsPlaced k e (place_at xs (index_at m ts) end)
placed_label fault.Memory e m ts l xs end h is g first = tt
placed_label fault.Token e m ts l xs end h is g first = label_at _ e m ts l xs end h is g first
placed_label fault.Mnemonic e m ts l xs end h is g first = label_at _ e m ts l xs end h is g first
placed_label fault.Register e m ts l xs end h is g first = label_at _ e m ts l xs end h is g first
placed_label fault.Range e m ts l xs end h is g first = label_at _ e m ts l xs end h is g first
placed_label fault.UnknownLabel e m ts l xs end h is g first = label_at _ e m ts l xs end h is g first
placed_label fault.DoubledLabel e m ts l xs end h is g first = label_at _ e m ts l xs end h is g first

unnamed_if : (b : Bool) → fault_if b fault.DoubledLabel ≡ None → b ≡ false
unnamed_if true h = cc
unnamed_if false h = refl

-- what stands behind a label
pub label_behind : (ts : List Spanned) (n : List ℕ) (d : Spanned) (k : ℕ) → 2 ≤ length ts → ((rest : List Token) → Some n ≡ label_in (view (get_or ts 0 d).token ∷ view (get_or ts 1 d).token ∷ rest)) → k ≡ length ts - 2
    → spots (take k (drop 2 ts)) ≡ drop (label_length (views ts)) (spots ts)
label_behind [] n d k long h e = absurd (omega arith)
label_behind (a ∷ []) n d k long h e = absurd (omega arith)
label_behind (a ∷ b ∷ ts) n d k long h e =
    let whole : take k ts ≡ ts = grind (arith, common_steps) in
    ap spots whole ∙ ap (λ (o : Option (List ℕ)). drop (if is_some o then 2 else 0) (spots (a ∷ b ∷ ts))) (h (views ts))

-- the statement is at fault
pub placed_statement : (k : FaultKind) (e : LineFault) (m : State) (at : Place) (ts us : List Token) (xs ys : List Extent) (end : ℕ) → label_fault m.labels (label_in ts) ≡ None → ys ≡ drop (label_length ts) xs → us ≡ statement_in ts
    → at ≡ place_of m → IsPlaced k e (place_at ys (statement_index at us) end) → IsPlaced k e (place_at xs (index_at m ts) end)
placed_statement k e m at ts us xs ys end h behind is here g =
    let named : is_named m.labels (label_in ts) ≡ false = unnamed_if (is_named m.labels (label_in ts)) h in
    let whole : place_at xs (label_length ts + statement_index (place_of m) (statement_in ts)) end ≡ place_at xs (index_at m ts) end =
    sym (ap (λ (b : Bool). place_at xs (if b then 0 else label_length ts + statement_index (place_of m) (statement_in ts)) end) named) in
    let same : place_at ys (statement_index at us) end ≡ place_at xs (index_at m ts) end =
    ap (λ (zs : List Extent). place_at zs (statement_index at us) end) behind
    ∙ ap (λ (vs : List Token). place_at (drop (label_length ts) xs) (statement_index at vs) end) is
    ∙ ap (λ (p : Place). place_at (drop (label_length ts) xs) (statement_index p (statement_in ts)) end) here
    ∙ get_or-drop (label_length ts) xs (statement_index (place_of m) (statement_in ts)) (end_at end)
    ∙ whole in
    subst (IsPlaced k e) same g

-- where a line's first fault is
pub ruleset line_places = (placed_label, placed_statement, placed_memory)
