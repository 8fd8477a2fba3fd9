-- The labels of a source as a symbol table, a line each (nm).
use Rattle.std.specs.Prelude.{◌≡◌, ℕ, ◌-◌, Bool, false, List, [], ◌++◌, length, replicate, filter, flat_map, map, nat_lt, Some, option_map, Ok, codes, All, Contains, IsPermutation}
use Rattle.std.specs.Fmt.{digits}
use Rattle.std.specs.Str.{bytes_eq}
use Rattle.std.specs.List.{IsDistinct}
use Rattle.std.specs.List.Sorted.{IsSorted}
use Rattle.std.specs.Ordering.{nat_cmp, ordering_then}
use Rattle.std.specs.declared.cmp.Ordering.{Ordering}
use Rattle.std.specs.Cmp.Lexicographic.{slice_cmp}
use denote.Ref.{Bor}
use Rattle.ptk_words.specs.Names.{newline}
use Rattle.ptk_asm_language.specs.declared.statement.Section.{Section}
use Rattle.ptk_asm_language.specs.declared.statement.Section.TheVariants as section
use Rattle.ptk_asm_language.specs.declared.place.Place.{Place}
use Rattle.ptk_asm_language.specs.declared.place.Lengths.{Lengths}
use Rattle.ptk_asm_language.specs.Lines.{raw_lines}
use Rattle.ptk_asm_language.specs.Statements.{named}
use Rattle.ptk_asm_language.specs.Source.{Layout, address_at, first_pass}
use Rattle.ptk_asm.specs.declared.symbols.Symbol.{Symbol}
use Rattle.ptk_asm.specs.Passing.{place_named}
use Rattle.std.specs.HashMap.{HashMap, IsUnique}

-- ---- a line

-- the letter of a section's labels, between blanks (nm)
abbrev pub letter_of : Section → List ℕ
letter_of section.Text = codes " t "
letter_of section.Data = codes " d "
letter_of section.Bss = codes " b "

-- the digits of a number to base 16, with zeros before them up to eight (own)
abbrev pub padded_hex : ℕ → List ℕ
padded_hex n = let shown : List ℕ = digits 16 false n in replicate (8 - length shown) 48 ++ shown

-- a character of ASCII
abbrev pub is_ascii : ℕ → Bool
is_ascii c = nat_lt c 128

-- the line of a label: its address, the letter of its section, and the ASCII characters of its name (nm)
abbrev pub symbol_line : Symbol → List ℕ
symbol_line s = padded_hex s.address ++ (letter_of s.section ++ (filter is_ascii s.name.now ++ newline))

-- ---- a table

-- the label of a name at a place, where the sections are this long (own)
abbrev pub symbol_at : Lengths → Bor (List ℕ) × Place → Symbol
symbol_at lengths label = record { address = address_at lengths label.1; name = label.0; section = label.1.section }

-- labels in order: by address, those of one address by name (nm)
abbrev pub order_of : Symbol → Symbol → Ordering
order_of a b = ordering_then (nat_cmp a.address b.address) (slice_cmp nat_cmp a.name.now b.name.now)

-- the text is the lines of these labels in order (own)
abbrev pub IsTable : Lengths → List (Bor (List ℕ) × Place) → List ℕ → Type 0
IsTable lengths labels text =
    (rows : List Symbol) × IsPermutation (map (symbol_at lengths) labels) rows × IsSorted order_of rows × (text ≡ flat_map symbol_line rows)

-- each label of the code's map is found in it by its name (own)
abbrev pub AreFound : {S : Type 0} → HashMap (Bor (List ℕ)) Place S → Type 0
AreFound labels = All (λ label. place_named labels label.0.now ≡ Some label.1) labels.entries

-- no two labels of the code's map have one name (own)
abbrev pub AreApart : {S : Type 0} → HashMap (Bor (List ℕ)) Place S → Type 0
AreApart labels = IsUnique (λ (a b : Bor (List ℕ)). bytes_eq a.now b.now) labels

-- ---- the table of a source

-- the label is the one of its name in this layout, at its address (own)
abbrev pub IsOf : Layout → Symbol → Type 0
IsOf layout s = option_map (λ place. symbol_at layout.lengths (s.name, place)) (named layout.labels s.name.now) ≡ Some s

-- the two labels have one name (own)
abbrev pub is_of_one_name : Symbol → Symbol → Bool
is_of_one_name s u = bytes_eq s.name.now u.name.now

-- the text has one line for each label of the source, and no other, in order (nm)
pub record IsLabelTable (source text : List ℕ) : Type 0 where
  pub layout : Layout
  pub laid_out : first_pass [] (raw_lines source) ≡ Ok layout
  pub rows : List Symbol
  pub each : All (IsOf layout) rows
  pub every : (name : List ℕ) (place : Place) → named layout.labels name ≡ Some place → Contains (map (λ (s : Symbol). s.name.now) rows) name
  pub once : IsDistinct is_of_one_name rows
  pub order : IsSorted order_of rows
  pub is : text ≡ flat_map symbol_line rows
