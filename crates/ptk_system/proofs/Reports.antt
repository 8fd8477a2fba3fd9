-- The texts of the report.
use Rattle.std.proofs.Common.{◌≡◌, ℕ, ◌+◌, Bool, true, false, List, ◌++◌, Option, refl, sym, ap, subst, add-one}
use Rattle.std.specs.Prelude.{codes, decimal, if◌then◌else◌}
use Rattle.std.specs.Io.KnownBytes.{Appends}
use Rattle.std.proofs.KnownBytes.{Appends-trans}
use Rattle.ptk_words.specs.declared.faults.Status.{Status}
use Rattle.ptk_words.specs.declared.faults.Status.TheVariants.{Active, Exited, Stopped, Refused}
use Rattle.ptk_words_model.specs.State.{Part, State}
use Rattle.ptk_words.specs.Names.{newline}
use Rattle.ptk_words_model.specs.Text.{output_text, report_text, status_text, has_runnable}
use Rattle.ptk_system.specs.Told.{activity_of, status_in, told_status}
use Rattle.ptk_system.specs.Shown.{shown_status, part_lines, part_report, reports_to}
use Rattle.ptk_system.specs.World.{World}

activity_shown : (b : Bool) → shown_status (activity_of b) ≡ (if b then codes "running" else codes "idle")
activity_shown true = refl
activity_shown false = refl

status_shown_by : (status : Status) (s : Part) → shown_status (told_status status (has_runnable s)) ≡ status_text status s
status_shown_by Active s = activity_shown (has_runnable s)
status_shown_by (Exited code) s = refl
status_shown_by (Stopped cause pc) s = refl
status_shown_by (Refused fault) s = refl

-- the lines of what is told of a state are its text
pub lines_told : (name : List ℕ) (s : State) → part_lines name (status_in s.part) s.account.steps s.account.lost s.part.console.output ≡ report_text name s
lines_told name s =
    ap (λ (shown : List ℕ). (codes "partition " ++ (name ++ (codes " " ++ (shown ++ (codes " steps " ++ (decimal s.account.steps ++ (codes " lost " ++ (decimal s.account.lost ++ newline)))))))) ++ output_text s.part.console.output)
    (status_shown_by s.part.status s.part)

-- one more part
pub more_reports : (world : World) (a b c : Option (List ℕ)) (i : ℕ) → Appends a b (reports_to world i) → Appends b c (part_report world i) → Appends a c (reports_to world (i + 1))
more_reports world a b c i before part =
    subst (λ (j : ℕ). Appends a c (reports_to world j)) (sym (add-one i)) (Appends-trans a b c (reports_to world i) (part_report world i) before part)

pub ruleset texts = (lines_told)

pub ruleset reports = (more_reports)
