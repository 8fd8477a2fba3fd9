-- What the code's layout has to do with the lines so far, and its fault with the first one.
use Rattle.std.specs.Prelude.{ℕ, ◌≡◌, ◌≤◌, ◌+◌, length, sum_by, map, List, [], ◌∷◌, ◌++◌, Option, Some, None, option_map, Result, Ok, Err}
use Rattle.std.specs.HashMap.{HashMap, get_by}
use Rattle.std.specs.Str.{bytes_eq}
use denote.Ref.{Bor}
use Rattle.ptk_asm.specs.declared.layout.Layout as code
use Rattle.ptk_asm.specs.declared.placed.Placed as code_placed
use Rattle.ptk_asm.specs.declared.statements.Statement as code_statement
use Rattle.ptk_asm.specs.declared.statements.Label as code_label
use Rattle.ptk_asm.specs.declared.fault.AsmFault.{AsmFault}
use Rattle.ptk_asm_language.specs.declared.statement.Section.{Section}
use Rattle.ptk_asm_language.specs.declared.place.Span.{Span}
use Rattle.ptk_asm_language.specs.declared.place.Place.{Place}
use Rattle.ptk_asm_language.specs.declared.place.Extent.{Extent}
use Rattle.ptk_asm_language.specs.declared.place.Lengths.{Lengths}
use Rattle.ptk_asm_language.specs.declared.fault.FaultKind.{FaultKind}
use Rattle.ptk_asm_language.specs.declared.fault.FaultKind.TheVariants as fault
use Rattle.ptk_asm_language.specs.Lines.{raw_lines}
use Rattle.ptk_asm_language.specs.Tokens.{Token}
use Rattle.ptk_asm_language.specs.Places.{nowhere}
use Rattle.ptk_asm_language.specs.Statements.{named}
use Rattle.ptk_asm_language.specs.Source.{Statement, Placed, Layout, Fault, place_in, taken, grown, turned_by, with_label, entry_of, label_in, statement_in, stated, section_after, lengths_after, labels_after, placed_after, tokens_fault, fault_index, layout_of, first_pass}
use Rattle.ptk_asm_language.specs.Operating.{shown}
use Rattle.ptk_asm.specs.Whole.{IsWhole}

-- ---- the code's data as the definition's

-- the place of a label in the code's map
abbrev pub place_named : {S : Type 0} → HashMap (Bor (List ℕ)) Place S → List ℕ → Option Place
place_named labels q = get_by (λ k. bytes_eq q k.now) labels

-- the name of an optional label
abbrev pub label_name : Option code_label.Label → Option (List ℕ)
label_name label = option_map (λ (l : code_label.Label). l.name.now) label

-- the bytes of a label in its line
abbrev pub label_spot : code_label.Label → Extent
label_spot l = record { from = l.from; to = l.to }

-- the bytes of an optional label in its line
abbrev pub label_place : Option code_label.Label → Extent
label_place None = nowhere
label_place (Some l) = label_spot l

-- a statement of the code
abbrev pub shown_statement : code_statement.Statement → Statement
shown_statement s = record { form = s.form; operands = shown s.operands }

-- a statement of the code where it stands
abbrev pub shown_placed : code_placed.Placed → Placed
shown_placed p = record { span = p.span; place = p.place; last = p.last; statement = shown_statement p.statement }

-- ---- the state of the first pass

-- the section, the lengths, the labels and the statements so far
pub record State : Type 0 where
  pub section : Section
  pub lengths : Lengths
  pub labels : List (List ℕ × Place)
  pub placed : List Placed

-- the state behind these lines, the latest first
abbrev pub state_after : List (List ℕ) → State
state_after before = record {
  section = section_after before;
  lengths = lengths_after before;
  labels = labels_after before;
  placed = placed_after before;
}

-- where the next statement stands
abbrev pub place_of : State → Place
place_of m = place_in m.lengths m.section

-- the state with a label at its place
abbrev pub labelled : State → Option (List ℕ) → State
labelled m label = record m { labels = with_label label (place_of m) m.labels }

-- the state with a statement at its place
abbrev pub with_statement : State → Span → Extent → Statement → State
with_statement m span last s = record {
  section = turned_by m.section s.form;
  lengths = grown m.lengths m.section (taken s);
  labels = m.labels;
  placed = m.placed ++ (record { span = span; place = place_of m; last = last; statement = s } ∷ []);
}

-- the state with an optional statement at its place
abbrev pub stepped : State → Span → Extent → Option Statement → State
stepped m span last None = m
stepped m span last (Some s) = with_statement m span last s

-- the state behind a line with these tokens, whose last one has these bytes
abbrev pub behind : State → Span → Extent → List Token → State
behind m span last ts = stepped (labelled m (label_in ts)) span last (stated (statement_in ts))

-- the first fault of a line with these tokens
abbrev pub fault_at : State → Option (List Token) → Option FaultKind
fault_at m ts = tokens_fault m.labels (place_of m) ts

-- which token of a line with these tokens is at fault
abbrev pub index_at : State → List Token → ℕ
index_at m ts = fault_index m.labels (place_of m) ts

-- the code's layout is this state
pub record Shows (l : code.Layout) (m : State) : Type 0 where
  pub section : l.section ≡ m.section
  pub lengths : l.lengths ≡ m.lengths
  pub entry : l.entry ≡ entry_of m.labels
  pub labels : (q : List ℕ) → place_named l.labels q ≡ named m.labels q
  pub placed : map shown_placed l.placed.items ≡ m.placed

-- the code's layout is that of these lines, which hold no fault
pub record Reaches (l : code.Layout) (before : List (List ℕ)) : Type 0 where
  pub shows : Shows l (state_after before)
  pub whole : IsWhole before

-- ---- faults

-- the code's fault tells this one: its kind, its line, and the bytes of the source at fault, which lie within the line
pub record Tells (e : AsmFault) (f : Fault) : Type 0 where
  pub kind : e.kind ≡ f.kind
  pub line : e.line ≡ f.span.line
  pub first : e.from ≡ f.span.start + f.place.from
  pub last : e.to ≡ f.span.start + f.place.to
  pub ordered : e.from ≤ e.to
  pub before_end : e.to ≤ f.span.end

-- memory ran out, or this is the first fault
abbrev pub IsFirst : {A : Type 0} → FaultKind → AsmFault → Result A Fault → Type 0
IsFirst fault.Memory e found = Unit {0}
IsFirst k e found = (f : Fault) × (Tells e f × (found ≡ Err f))

-- ---- the loop over the lines

-- these lines stand before the rest of the source, and hold no fault
pub record IsBehind (text rest : List ℕ) (number : ℕ) (before : List (List ℕ)) : Type 0 where
  pub count : length before ≡ number
  pub lengths : sum_by length before + length rest ≡ length text
  pub same : first_pass before (raw_lines rest) ≡ first_pass [] (raw_lines text)

-- the layout is that of all lines of this text, which hold no fault
abbrev pub IsLaidOut : List ℕ → code.Layout → Type 0
IsLaidOut text l = (before : List (List ℕ)) × (Reaches l before × (first_pass [] (raw_lines text) ≡ Ok (layout_of before)))

-- memory ran out, or this is the first fault of the lines of the text
abbrev pub IsFirstFault : List ℕ → AsmFault → Type 0
IsFirstFault text e = IsFirst e.kind e (first_pass [] (raw_lines text))

-- ---- the second pass

-- the code's layout has these labels and lengths
pub record Names (l : code.Layout) (known : Layout) : Type 0 where
  pub lengths : l.lengths ≡ known.lengths
  pub labels : (q : List ℕ) → place_named l.labels q ≡ named known.labels q

-- memory ran out, or this is the first fault
abbrev pub IsSecond : FaultKind → AsmFault → Option Fault → Type 0
IsSecond fault.Memory e found = Unit {0}
IsSecond k e found = (f : Fault) × (Tells e f × (found ≡ Some f))

-- memory ran out, or this is the fault found in the line, at these bytes
abbrev pub IsAt : FaultKind → AsmFault → Span → Extent → Option FaultKind → Type 0
IsAt fault.Memory e span place found = Unit {0}
IsAt k e span place found = (found ≡ Some k) × Tells e (record { span = span; place = place; kind = k })
