-- A source: where its statements stand, what its labels name, its faults in their order, and its image.
use Rattle.std.specs.Prelude.{ℕ, suc, ◌+◌, ◌-◌, ◌%◌, Bool, true, false, not, ◌&&◌, ◌||◌, List, [], ◌∷◌, ◌++◌, length, sum_by, flat_map, ◌==◌, nat_lt, if◌then◌else◌, Option, Some, None, option_map, unwrap_or, is_some, Result, Ok, Err, ℤ, pos, ◌-ℤ◌, codes}
use Rattle.std.specs.Result.{result_err}
use Rattle.ptk_words.specs.Image.{ImageParts}
use Rattle.ptk_asm_language.specs.declared.statement.Section.{Section}
use Rattle.ptk_asm_language.specs.declared.statement.Section.TheVariants as section
use Rattle.ptk_asm_language.specs.declared.statement.Form.{Form}
use Rattle.ptk_asm_language.specs.declared.statement.Form.TheVariants as form
use Rattle.ptk_asm_language.specs.declared.fault.FaultKind.{FaultKind}
use Rattle.ptk_asm_language.specs.declared.fault.FaultKind.TheVariants as fault
use Rattle.ptk_asm_language.specs.declared.place.Span.{Span}
use Rattle.ptk_asm_language.specs.declared.place.Place.{Place}
use Rattle.ptk_asm_language.specs.declared.place.Extent.{Extent}
use Rattle.ptk_asm_language.specs.declared.place.Lengths.{Lengths}
use Rattle.ptk_asm_language.specs.Lines.{raw_lines, without_ending, code_of}
use Rattle.ptk_asm_language.specs.Tokens.{Token, Name, Mark, tokens_of}
use Rattle.ptk_asm_language.specs.Statements.{Value, Nothing, Given, Labelled, Operands, named, form_named, stands_in, slots_of, no_operands, operands_of, bytes_of, size_of, distances, is_within, is_even}
use Rattle.ptk_asm_language.specs.Places.{operand_index, places_of, place_at, last_place, wrong_place}

-- the numbers of the kinds of faults (own)
abbrev pub fault_number : FaultKind → ℕ
fault_number fault.Token = 1
fault_number fault.Mnemonic = 2
fault_number fault.Register = 3
fault_number fault.Range = 4
fault_number fault.UnknownLabel = 5
fault_number fault.DoubledLabel = 6
fault_number fault.Memory = 7

-- ---- the tokens of a line

-- the name before a colon at the front (own)
abbrev pub label_in : List Token → Option (List ℕ)
label_in (Name n ∷ Mark m ∷ rest) = if m == 58 then Some n else None
label_in ts = None

-- the tokens behind the label and its colon (own)
abbrev pub statement_in : List Token → List Token
statement_in (Name n ∷ Mark m ∷ rest) = if m == 58 then rest else Name n ∷ Mark m ∷ rest
statement_in ts = ts

-- a form and its operands (own)
pub record Statement : Type 0 where
  pub form : Form
  pub operands : Operands

-- the form that the first token names (own)
abbrev pub form_in : List Token → Option Form
form_in (Name n ∷ rest) = form_named n
form_in ts = None

-- the statement of a form, None where its operands are faulty (own)
abbrev pub statement_with : Form → Result Operands FaultKind → Option Statement
statement_with f (Ok o) = Some (record { form = f; operands = o })
statement_with f (Err e) = None

-- the statement of a form and the tokens behind its mnemonic, None where there is none or a faulty one (own)
abbrev pub statement_by : List Token → Option Form → Option Statement
statement_by (t ∷ ts) (Some f) = statement_with f (operands_of (slots_of f) ts)
statement_by ts f = None

-- the statement that tokens are, None where there is none or a faulty one (own)
abbrev pub stated : List Token → Option Statement
stated ts = statement_by ts (form_in ts)

-- ---- one line

-- the tokens of a line, none where one is faulty (own)
abbrev pub line_tokens : List ℕ → List Token
line_tokens line = unwrap_or (tokens_of (code_of line)) []

-- the label of a line (own)
abbrev pub label_of : List ℕ → Option (List ℕ)
label_of line = label_in (line_tokens line)

-- the statement of a line, None where it has none or a faulty one (own)
abbrev pub statement_of : List ℕ → Option Statement
statement_of line = stated (statement_in (line_tokens line))

-- ---- what lies before a line: the lines before it, each with its LF, the latest first

-- the section is this one (own)
abbrev pub same_section : Section → Section → Bool
same_section section.Text section.Text = true
same_section section.Data section.Data = true
same_section section.Bss section.Bss = true
same_section a b = false

-- the section of what follows a form (own)
abbrev pub turned_by : Section → Form → Section
turned_by at (form.Within s) = s
turned_by at f = at

-- the section of what follows a line with this statement (own)
abbrev pub turned_to : Section → Option Statement → Section
turned_to at (Some s) = turned_by at s.form
turned_to at None = at

-- the section of what follows these lines; the first is the text (own)
abbrev pub section_after : List (List ℕ) → Section
section_after [] = section.Text
section_after (line ∷ before) = turned_to (section_after before) (statement_of line)

-- no bytes yet (own)
abbrev pub no_lengths : Lengths
no_lengths = record { text = 0; «data» = 0; bss = 0 }

-- how long a section is (own)
abbrev pub length_in : Lengths → Section → ℕ
length_in l section.Text = l.text
length_in l section.Data = l.«data»
length_in l section.Bss = l.bss

-- a section with n bytes more (own)
abbrev pub grown : Lengths → Section → ℕ → Lengths
grown l section.Text n = record l { text = l.text + n }
grown l section.Data n = record l { «data» = l.«data» + n }
grown l section.Bss n = record l { bss = l.bss + n }

-- how many bytes a statement takes (own)
abbrev pub taken : Statement → ℕ
taken s = size_of s.form s.operands.value

-- the lengths behind a line with this statement (own)
abbrev pub grown_by : Lengths → Section → Option Statement → Lengths
grown_by l at None = l
grown_by l at (Some s) = grown l at (taken s)

-- how long the sections are after these lines (own)
abbrev pub lengths_after : List (List ℕ) → Lengths
lengths_after [] = no_lengths
lengths_after (line ∷ before) = grown_by (lengths_after before) (section_after before) (statement_of line)

-- the place behind a section's bytes (own)
abbrev pub place_in : Lengths → Section → Place
place_in l at = record { section = at; offset = length_in l at }

-- where the next statement stands (own)
abbrev pub place_after : List (List ℕ) → Place
place_after before = place_in (lengths_after before) (section_after before)

-- the labels with that of a line (own)
abbrev pub with_label : Option (List ℕ) → Place → List (List ℕ × Place) → List (List ℕ × Place)
with_label None at labels = labels
with_label (Some n) at labels = (n, at) ∷ labels

-- the labels of these lines, with their places (own)
abbrev pub labels_after : List (List ℕ) → List (List ℕ × Place)
labels_after [] = []
labels_after (line ∷ before) = with_label (label_of line) (place_after before) (labels_after before)

-- the number of the line behind these, and where it begins and ends in the source (own)
abbrev pub span_after : List (List ℕ) → List ℕ → Span
span_after before line = record {
  line = length before + 1;
  start = sum_by length before;
  end = sum_by length before + length (without_ending line);
}

-- a statement where it stands, and the bytes of its last token in its line, which is its label where it has one (own)
pub record Placed : Type 0 where
  pub span : Span
  pub place : Place
  pub last : Extent
  pub statement : Statement

-- the statement of a line, if there is one, where it stands (own)
abbrev pub placed_at : Span → Place → Extent → Option Statement → List Placed
placed_at span at last None = []
placed_at span at last (Some s) = record { span = span; place = at; last = last; statement = s } ∷ []

-- the bytes of the last token of a line (own)
abbrev pub last_of : List ℕ → Extent
last_of line = last_place (places_of (code_of line))

-- the statements of these lines, in their order (own)
abbrev pub placed_after : List (List ℕ) → List Placed
placed_after [] = []
placed_after (line ∷ before) =
    placed_after before ++ placed_at (span_after before line) (place_after before) (last_of line) (statement_of line)

-- ---- faults

-- a fault, with the line in which it stands and the bytes at fault, counted from the line's beginning (own)
pub record Fault : Type 0 where
  pub span : Span
  pub place : Extent
  pub kind : FaultKind

-- the fault, where the test passes (own)
abbrev pub fault_if : Bool → FaultKind → Option FaultKind
fault_if b k = if b then Some k else None

-- the first of these that is there (own)
abbrev pub first_of : List (Option FaultKind) → Option FaultKind
first_of [] = None
first_of (Some k ∷ rest) = Some k
first_of (None ∷ rest) = first_of rest

-- there is a label, and it is among these (own)
abbrev pub is_named : List (List ℕ × Place) → Option (List ℕ) → Bool
is_named labels None = false
is_named labels (Some n) = is_some (named labels n)

-- a doubled label (own)
abbrev pub label_fault : List (List ℕ × Place) → Option (List ℕ) → Option FaultKind
label_fault labels label = fault_if (is_named labels label) fault.DoubledLabel

-- no mnemonic, or one of another section (own)
abbrev pub mnemonic_fault : Section → List Token → Option Form → Option FaultKind
mnemonic_fault at [] f = None
mnemonic_fault at (t ∷ ts) None = Some fault.Mnemonic
mnemonic_fault at (t ∷ ts) (Some f) = fault_if (not (stands_in f at)) fault.Mnemonic

-- a wrong operand (own)
abbrev pub operand_fault : List Token → Option Form → Option FaultKind
operand_fault (t ∷ ts) (Some f) = result_err (operands_of (slots_of f) ts)
operand_fault ts f = None

-- how many bytes a section may have (own)
abbrev pub longest : ℕ
longest = 1048576

-- a word of data (own)
abbrev pub is_data_word : Section → Form → Bool
is_data_word section.Data form.Word = true
is_data_word at f = false

-- a word of data at a wrong offset, or a section that gets too long (own)
abbrev pub is_misplaced : Place → Statement → Bool
is_misplaced at s = (is_data_word at.section s.form && not (at.offset % 4 == 0)) || nat_lt longest (at.offset + taken s)

-- the fault of a statement that is misplaced (own)
abbrev pub place_fault : Place → Option Statement → Option FaultKind
place_fault at None = None
place_fault at (Some s) = fault_if (is_misplaced at s) fault.Range

-- the first fault of a statement that stands here (own)
abbrev pub statement_fault : Place → List Token → Option FaultKind
statement_fault at ts =
    first_of (
    mnemonic_fault at.section ts (form_in ts)
    ∷ operand_fault ts (form_in ts)
    ∷ place_fault at (stated ts)
    ∷ [])

-- the first fault of a line with these tokens (own)
abbrev pub tokens_fault : List (List ℕ × Place) → Place → Option (List Token) → Option FaultKind
tokens_fault labels at None = Some fault.Token
tokens_fault labels at (Some ts) = first_of (label_fault labels (label_in ts) ∷ statement_fault at (statement_in ts) ∷ [])

-- the first fault of a line behind these lines (own)
abbrev pub line_fault : List (List ℕ) → List ℕ → Option FaultKind
line_fault before line = tokens_fault (labels_after before) (place_after before) (tokens_of (code_of line))

-- how many tokens a label and its colon are (own)
abbrev pub label_length : List Token → ℕ
label_length ts = if is_some (label_in ts) then 2 else 0

-- the number of the operand at fault, where there is one, else that of the mnemonic (own)
abbrev pub index_of : Result Operands FaultKind → ℕ → ℕ
index_of (Ok o) n = 0
index_of (Err k) n = suc n

-- the number of the token at fault in a statement of a form that may stand there (own)
abbrev pub index_with : List Token → Option Form → ℕ
index_with (t ∷ ts) (Some f) = index_of (operands_of (slots_of f) ts) (operand_index no_operands (slots_of f) ts)
index_with ts f = 0

-- which token of a statement is at fault: the mnemonic, counted 0, or one of the tokens behind it, one more than there are tokens where an operand is missing (own)
abbrev pub statement_index : Place → List Token → ℕ
statement_index at ts = if is_some (mnemonic_fault at.section ts (form_in ts)) then 0 else index_with ts (form_in ts)

-- which token of a line is at fault: the label, or one of the statement (own)
abbrev pub fault_index : List (List ℕ × Place) → Place → List Token → ℕ
fault_index labels at ts = if is_named labels (label_in ts) then 0 else label_length ts + statement_index at (statement_in ts)

-- the bytes at fault in a line: a piece that is no token, or a token; the end of the line's code where an operand is missing (own)
abbrev pub tokens_place : List (List ℕ × Place) → Place → List ℕ → Option (List Token) → Extent
tokens_place labels at code None = wrong_place code
tokens_place labels at code (Some ts) = place_at (places_of code) (fault_index labels at ts) (length code)

-- the bytes at fault in a line behind these lines, where it has a fault (own)
abbrev pub line_place : List (List ℕ) → List ℕ → Extent
line_place before line = tokens_place (labels_after before) (place_after before) (code_of line) (tokens_of (code_of line))

-- what a source holds where its lines have no fault (own)
pub record Layout : Type 0 where
  pub labels : List (List ℕ × Place)
  pub lengths : Lengths
  pub placed : List Placed

-- what these lines hold (own)
abbrev pub layout_of : List (List ℕ) → Layout
layout_of before = record { labels = labels_after before; lengths = lengths_after before; placed = placed_after before }

-- the fault of a line, if there is one, or the layout of the lines behind it (own)
abbrev pub at_line : Span → Extent → Option FaultKind → Result Layout Fault → Result Layout Fault
at_line span place (Some k) rest = Err (record { span = span; place = place; kind = k })
at_line span place None rest = rest

-- the first fault of the lines, behind the lines before, or the layout of all (own)
abbrev pub first_pass : List (List ℕ) → List (List ℕ) → Result Layout Fault
first_pass before [] = Ok (layout_of before)
first_pass before (line ∷ lines) = at_line (span_after before line) (line_place before line) (line_fault before line) (first_pass (line ∷ before) lines)

-- ---- labels

-- where a section begins in memory (own)
abbrev pub base_of : Lengths → Section → ℕ
base_of l section.Text = 0
base_of l section.Data = l.text
base_of l section.Bss = l.text + l.«data»

-- the address of a place (own)
abbrev pub address_at : Lengths → Place → ℕ
address_at l at = base_of l at.section + at.offset

-- the address that a label names (own)
abbrev pub address_of : Layout → List ℕ → Option ℕ
address_of l name = option_map (address_at l.lengths) (named l.labels name)

-- the distance to an address from a statement, or the address, as its form takes it (RISC-V 2.5; own)
abbrev pub seen_from : Option (ℕ × ℕ) → ℕ → ℕ → ℤ
seen_from None offset address = pos address
seen_from (Some range) offset address = pos address -ℤ pos offset

-- the number that a statement means (own)
abbrev pub number_of : Layout → Placed → Value → ℤ
number_of l p Nothing = pos 0
number_of l p (Given n) = n
number_of l p (Labelled name) = seen_from (distances p.statement.form) p.place.offset (unwrap_or (address_of l name) 0)

-- a distance out of range, or an odd one (RISC-V 2.5)
abbrev pub distance_fault : Option (ℕ × ℕ) → ℤ → Option FaultKind
distance_fault None n = None
distance_fault (Some range) n = fault_if (not (is_within range.0 range.1 n && is_even n)) fault.Range

-- an unknown label, or a distance to it out of range (own)
abbrev pub address_fault : Placed → Option ℕ → Option FaultKind
address_fault p None = Some fault.UnknownLabel
address_fault p (Some a) = distance_fault (distances p.statement.form) (seen_from (distances p.statement.form) p.place.offset a)

-- an unknown label of a statement, or a distance to it out of range; a number has neither (own)
abbrev pub value_fault : Layout → Placed → Value → Option FaultKind
value_fault l p (Labelled name) = address_fault p (address_of l name)
value_fault l p v = None

-- the fault of a statement when all labels are known (own)
abbrev pub reference_fault : Layout → Placed → Option FaultKind
reference_fault l p = value_fault l p p.statement.operands.value

-- the fault of a statement, if there is one, or that of those behind it (own)
abbrev pub at_span : Span → Extent → Option FaultKind → Option Fault → Option Fault
at_span span place (Some k) rest = Some (record { span = span; place = place; kind = k })
at_span span place None rest = rest

-- the first fault of statements when all labels are known (own)
abbrev pub second_pass : Layout → List Placed → Option Fault
second_pass l [] = None
second_pass l (p ∷ ps) = at_span p.span p.last (reference_fault l p) (second_pass l ps)

-- ---- the image

-- the bytes of a statement (own)
abbrev pub placed_bytes : Layout → Placed → List ℕ
placed_bytes l p = bytes_of p.statement.form p.statement.operands.registers (number_of l p p.statement.operands.value)

-- the bytes that a statement adds to a section (own)
abbrev pub bytes_in : Layout → Section → Placed → List ℕ
bytes_in l s p = if same_section s p.place.section then placed_bytes l p else []

-- the bytes that statements add to a section (own)
abbrev pub contents_of : Layout → Section → List Placed → List ℕ
contents_of l s ps = flat_map (bytes_in l s) ps

-- the offset of a place in the text, else 0 (own)
abbrev pub entry_at : Option Place → ℕ
entry_at None = 0
entry_at (Some at) = if same_section section.Text at.section then at.offset else 0

-- the entry: the label _start where it is in the text, else 0 (own)
abbrev pub entry_of : List (List ℕ × Place) → ℕ
entry_of labels = entry_at (named labels (codes "_start"))

-- the image of a source without a fault (own)
abbrev pub image_of : Layout → ImageParts
image_of l = record {
  entry = entry_of l.labels;
  text = contents_of l section.Text l.placed;
  «data» = contents_of l section.Data l.placed;
  bss = l.lengths.bss;
}

-- the fault, if there is one, or the image (own)
abbrev pub unless : Option Fault → ImageParts → Result ImageParts Fault
unless (Some f) image = Err f
unless None image = Ok image

-- the image of lines without a fault of the first pass, or the first fault of the second (own)
abbrev pub linked : Result Layout Fault → Result ImageParts Fault
linked (Err f) = Err f
linked (Ok l) = unless (second_pass l l.placed) (image_of l)

-- the image of a source, or its first fault with its line (own)
abbrev pub source : List ℕ → Result ImageParts Fault
source text = linked (first_pass [] (raw_lines text))
