-- The layout behind a line.
use Rattle.std.proofs.Common.{◌≡◌, ℕ, ◌<◌, length, get_or, drop, arith, Bool, true, false, List, [], ◌∷◌, Some, None, Option, refl, sym, ap, subst, ◌∙◌}
use Rattle.std.specs.Prelude.{Ok, Err}
use Rattle.ptk_asm_language.specs.declared.statement.Form.{Form}
use Rattle.ptk_asm_language.specs.declared.place.Place.{Place}
use Rattle.ptk_asm_language.specs.declared.place.Span.{Span}
use Rattle.ptk_asm_language.specs.declared.place.Extent.{Extent}
use Rattle.ptk_asm_language.specs.declared.fault.FaultKind.{FaultKind}
use Rattle.ptk_asm_language.specs.declared.fault.FaultKind.TheVariants as fault
use Rattle.ptk_asm_language.specs.declared.token.Spanned.{Spanned}
use Rattle.ptk_asm_language.specs.Reading.{view, views, Refuses, Answers}
use Rattle.ptk_asm_language.specs.Tokens.{Token}
use Rattle.ptk_asm_language.specs.Statements.{Operands, operands_of, slots_of, stands_in}
use Rattle.ptk_asm_language.specs.Source.{Statement, form_in, stated, statement_fault, place_fault, mnemonic_fault, is_misplaced, first_of, label_fault, label_in, statement_in}
use Rattle.ptk_asm.specs.declared.layout.Layout as code
use Rattle.ptk_asm.specs.Passing.{State, Shows, behind, stepped, labelled, with_statement, place_of, fault_at}

-- ---- a statement's first fault, check by check

pub fault-operands : (at : Place) (t : Token) (ts : List Token) (f : Form) (k : FaultKind) → form_in (t ∷ ts) ≡ Some f → stands_in f at.section ≡ true → operands_of (slots_of f) ts ≡ Err k
    → statement_fault at (t ∷ ts) ≡ Some k
fault-operands at t ts f k e s o = simp (e, s, o)

pub fault-place : (at : Place) (t : Token) (ts : List Token) (f : Form) (o : Operands) → form_in (t ∷ ts) ≡ Some f → stands_in f at.section ≡ true → operands_of (slots_of f) ts ≡ Ok o
    → statement_fault at (t ∷ ts) ≡ place_fault at (Some (record { form = f; operands = o }))
fault-place at t ts f o e s p = by_cases (is_misplaced at (record { form = f; operands = o })) refl
  where
    by_cases : (b : Bool) → is_misplaced at (record { form = f; operands = o }) ≡ b → statement_fault at (t ∷ ts) ≡ place_fault at (Some (record { form = f; operands = o }))
    by_cases true h = simp (e, s, p, h)
    by_cases false h = simp (e, s, p, h)

pub stated-ok : (t : Token) (ts : List Token) (f : Form) (o : Operands) → form_in (t ∷ ts) ≡ Some f → operands_of (slots_of f) ts ≡ Ok o → stated (t ∷ ts) ≡ Some (record { form = f; operands = o })
stated-ok t ts f o e p = simp (e, p)

-- the first fault of a list is that of its first check
pub refuses-first : (k : FaultKind) (at : Place) (t : Token) (ts : List Token) → Refuses k (mnemonic_fault at.section (t ∷ ts) (form_in (t ∷ ts))) → Refuses k (statement_fault at (t ∷ ts))
refuses-first fault.Memory at t ts h = tt
refuses-first fault.Token at t ts h = rw h refl
refuses-first fault.Mnemonic at t ts h = rw h refl
refuses-first fault.Register at t ts h = rw h refl
refuses-first fault.Range at t ts h = rw h refl
refuses-first fault.UnknownLabel at t ts h = rw h refl
refuses-first fault.DoubledLabel at t ts h = rw h refl

-- or that of its operands
pub refuses-operands : (k : FaultKind) (at : Place) (t : Token) (ts : List Token) (f : Form) → form_in (t ∷ ts) ≡ Some f → stands_in f at.section ≡ true → Answers k (operands_of (slots_of f) ts) → Refuses k (statement_fault at (t ∷ ts))
refuses-operands fault.Memory at t ts f e s h = tt
refuses-operands fault.Token at t ts f e s h = fault-operands at t ts f fault.Token e s h
refuses-operands fault.Mnemonic at t ts f e s h = fault-operands at t ts f fault.Mnemonic e s h
refuses-operands fault.Register at t ts f e s h = fault-operands at t ts f fault.Register e s h
refuses-operands fault.Range at t ts f e s h = fault-operands at t ts f fault.Range e s h
refuses-operands fault.UnknownLabel at t ts f e s h = fault-operands at t ts f fault.UnknownLabel e s h
refuses-operands fault.DoubledLabel at t ts f e s h = fault-operands at t ts f fault.DoubledLabel e s h

-- what a statement's first fault is
pub ruleset statement_rules = (refuses-first, refuses-operands, fault-place, stated-ok)

-- the tokens of a list that isn't empty
pub views_front : (ts : List Spanned) (t : Spanned) → 0 < length ts → t ≡ get_or ts 0 t → views ts ≡ view t.token ∷ views (drop 1 ts)
views_front [] t some is_t = absurd (omega arith)
views_front (u ∷ us) t some is_t = rw is_t refl

-- ---- a line

-- the first fault of a line: a doubled label, or its statement's
pub refuses-label : (k : FaultKind) (m : State) (ts : List Token) → Refuses k (label_fault m.labels (label_in ts)) → Refuses k (fault_at m (Some ts))
refuses-label fault.Memory m ts h = tt
refuses-label fault.Token m ts h = rw h refl
refuses-label fault.Mnemonic m ts h = rw h refl
refuses-label fault.Register m ts h = rw h refl
refuses-label fault.Range m ts h = rw h refl
refuses-label fault.UnknownLabel m ts h = rw h refl
refuses-label fault.DoubledLabel m ts h = rw h refl

alone : (o : Option FaultKind) → first_of (o ∷ []) ≡ o
alone None = refl
alone (Some k) = refl

-- a line whose label is no second one
pub fault-statement : (m : State) (ts : List Token) → label_fault m.labels (label_in ts) ≡ None → fault_at m (Some ts) ≡ statement_fault (place_of m) (statement_in ts)
fault-statement m ts e = ap (λ (o : Option FaultKind). first_of (o ∷ statement_fault (place_of m) (statement_in ts) ∷ [])) e ∙ alone (statement_fault (place_of m) (statement_in ts))

-- a line without a statement
pub fault-none : (m : State) (ts : List Token) → label_fault m.labels (label_in ts) ≡ None → statement_in ts ≡ [] → fault_at m (Some ts) ≡ None
fault-none m ts e s = fault-statement m ts e ∙ ap (statement_fault (place_of m)) s

pub behind-none : (m : State) (span : Span) (last : Extent) (ts : List Token) → statement_in ts ≡ [] → behind m span last ts ≡ labelled m (label_in ts)
behind-none m span last ts s = ap (λ (us : List Token). stepped (labelled m (label_in ts)) span last (stated us)) s

pub behind-statement : (m : State) (span : Span) (last : Extent) (ts : List Token) (s : Statement) → stated (statement_in ts) ≡ Some s → behind m span last ts ≡ with_statement (labelled m (label_in ts)) span last s
behind-statement m span last ts s e = ap (stepped (labelled m (label_in ts)) span last) e

-- the layout behind a line with a statement
pub shows_statement : (l : code.Layout) (m : State) (span : Span) (last : Extent) (ts us : List Token) (n : Option (List ℕ)) (s : Statement) → n ≡ label_in ts → us ≡ statement_in ts → stated us ≡ Some s
    → Shows l (with_statement (labelled m n) span last s) → Shows l (behind m span last ts)
shows_statement l m span last ts us n s e f g h =
    let a : stated (statement_in ts) ≡ Some s = rw (← f) g in
    subst (λ (x : State). Shows l x) (ap (λ (x : Option (List ℕ)). with_statement (labelled m x) span last s) e ∙ sym (behind-statement m span last ts s a)) h

pub views_none : (ts : List Spanned) → length ts ≡ 0 → views ts ≡ []
views_none [] e = refl
views_none (t ∷ ts) e = absurd (omega arith)

-- what a line comes to
pub ruleset line_rules = (refuses-label, fault-statement, fault-none, behind-none, behind-statement, views_none)
