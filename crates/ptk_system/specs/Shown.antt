-- The bytes of the report.
use Rattle.std.specs.Prelude.{ℕ, zero, suc, List, [], ◌++◌, length, codes}
use Rattle.ptk_words_model.specs.Text.{exit_text, stopped_text, refused_text, head_line, output_text, report_text}
use Rattle.ptk_system.specs.World.{World, section_at, state_of}
use Rattle.ptk_system.specs.declared.status.PartStatus.{PartStatus}
use Rattle.ptk_system.specs.declared.status.PartStatus.TheVariants.{Idle, Running, Exited, Stopped, Refused}

-- a status as the report spells it
abbrev pub shown_status : PartStatus → List ℕ
shown_status Idle = codes "idle"
shown_status Running = codes "running"
shown_status (Exited code) = exit_text code
shown_status (Stopped cause pc) = stopped_text cause pc
shown_status (Refused fault) = refused_text fault

-- the line of a partition, and its output after it
abbrev pub part_lines : List ℕ → PartStatus → ℕ → ℕ → List ℕ → List ℕ
part_lines name status steps lost output = head_line name (shown_status status) steps lost ++ output_text output

-- a partition's part of the report: the text of its state
abbrev pub part_report : World → ℕ → List ℕ
part_report world p = report_text (section_at world.config p).name (state_of world p)

-- the parts of the first n sections, in their order
abbrev pub reports_to : World → ℕ → List ℕ
reports_to world zero = []
reports_to world (suc n) = reports_to world n ++ part_report world n

-- the report
abbrev pub report_of : World → List ℕ
report_of world = reports_to world (length world.config.sections)
