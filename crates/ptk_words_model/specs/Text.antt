-- The texts of a partition's report and of its trace, as bytes (own).
use Rattle.std.specs.Prelude.{ℕ, Bool, zero, suc, ◌+◌, ◌/◌, ◌%◌, ◌^◌, List, [], ◌∷◌, ◌++◌, length, nat_lt, if◌then◌else◌, decimal, codes, flat_map, is_some, ◌||◌}
use Rattle.std.specs.List.{concat}
use Rattle.ptk_words.specs.Names.{Byte, Pointer, Ticks, Word, newline}
use Rattle.ptk_words.specs.Faults.{image_fault_number}
use Rattle.ptk_words.specs.declared.faults.FaultKind.{FaultKind}
use Rattle.ptk_words.specs.declared.faults.FaultKind.TheVariants.{Illegal, Fetch, Load, Store, Misaligned}
use Rattle.ptk_words.specs.declared.faults.ImageFault.{ImageFault}
use Rattle.ptk_words.specs.declared.faults.Cause.{Cause}
use Rattle.ptk_words.specs.declared.faults.Cause.TheVariants.{Break, Fault}
use Rattle.ptk_words.specs.declared.faults.Status.{Status}
use Rattle.ptk_words.specs.declared.faults.Status.TheVariants.{Active, Exited, Stopped, Refused}
use Rattle.ptk_words.specs.declared.sections.Entry.{Entry}
use Rattle.ptk_words_model.specs.State.{Part, State}

-- a digit to base 16, in lower case (own)
abbrev pub hex_digit : ℕ → Byte
hex_digit n = if nat_lt n 10 then 48 + n else 87 + n

-- the last digits of a number to base 16, this many of them (own)
abbrev pub hex_digits : ℕ → ℕ → List Byte
hex_digits zero n = []
hex_digits (suc k) n = hex_digit (n / 16 ^ k % 16) ∷ hex_digits k n

-- a word as 0x and eight digits to base 16 (own)
abbrev pub hex_word : Word → List Byte
hex_word word = codes "0x" ++ hex_digits 8 word

-- the kind of a fault (own)
abbrev pub fault_text : FaultKind → List Byte
fault_text Illegal = codes "illegal"
fault_text Fetch = codes "fetch"
fault_text Load = codes "load"
fault_text Store = codes "store"
fault_text Misaligned = codes "misaligned"

-- what stopped a partition (own)
abbrev pub cause_text : Cause → List Byte
cause_text Break = codes "break"
cause_text (Fault kind) = fault_text kind

-- a thread is running or ready (own)
abbrev pub has_runnable : Part → Bool
has_runnable s = is_some s.running || nat_lt 0 (length s.line)

-- running where a thread is running or ready, else idle (own)
abbrev pub activity_text : Part → List Byte
activity_text s = if has_runnable s then codes "running" else codes "idle"

-- the status of a partition that exited with this code (own)
abbrev pub exit_text : Byte → List Byte
exit_text code = codes "exit " ++ decimal code

-- the status of a partition that an instruction at this pc stopped (own)
abbrev pub stopped_text : Cause → Pointer → List Byte
stopped_text cause pc = concat (codes "fault " ∷ cause_text cause ∷ codes " pc " ∷ hex_word pc ∷ [])

-- the status of a partition whose image was refused (own)
abbrev pub refused_text : ImageFault → List Byte
refused_text fault = codes "refused image " ++ decimal (image_fault_number fault)

-- the status of a partition (own)
abbrev pub status_text : Status → Part → List Byte
status_text Active s = activity_text s
status_text (Exited code) s = exit_text code
status_text (Stopped cause pc) s = stopped_text cause pc
status_text (Refused fault) s = refused_text fault

-- the line with a partition's name, this text of its status, its steps and its lost ticks (own)
abbrev pub head_line : List Byte → List Byte → ℕ → Ticks → List Byte
head_line name status steps lost =
    concat (codes "partition " ∷ name ∷ codes " " ∷ status ∷ codes " steps " ∷ decimal steps ∷ codes " lost " ∷ decimal lost ∷ newline ∷ [])

-- the line of a partition's state (own)
abbrev pub head_text : List Byte → State → List Byte
head_text name s = head_line name (status_text s.part.status s.part) s.account.steps s.account.lost

-- the output, after a line with its length (own)
abbrev pub output_text : List Byte → List Byte
output_text output = concat (codes "output " ∷ decimal (length output) ∷ newline ∷ output ∷ newline ∷ [])

-- a partition's part of the report (own)
abbrev pub report_text : List Byte → State → List Byte
report_text name s = head_text name s ++ output_text s.part.console.output

-- the line of a step (own)
abbrev pub trace_line : Entry → List Byte
trace_line entry =
    concat (decimal entry.tick ∷ codes " " ∷ decimal entry.thread ∷ codes " " ∷ hex_word entry.pc ∷ codes " " ∷
    hex_word entry.word ∷ codes " " ∷ hex_word entry.a0 ∷ newline ∷ [])

-- the lines of steps, in order (own)
abbrev pub trace_text : List Entry → List Byte
trace_text entries = flat_map trace_line entries
