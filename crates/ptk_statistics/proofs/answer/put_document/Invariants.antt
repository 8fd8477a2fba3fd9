use Rattle.std.proofs.Common.{◌≡◌, ◌≢◌, ◌≤◌, ◌↔◌, None, IfErr, IsTrue, MatchResult, OnOk, ℕ, ◌+◌, ◌-◌, ◌*◌, ◌<◌, length}
use denote.Text.{Utf8}
use denote.Shadow.{shadow}
use Rattle.ptk_statistics.proofs.answer.put_document.Given as goal

-- what stands before the next partition is text
abbrev pub invariant-loop-entry : goal.invariant-loop-entry
invariant-loop-entry g l =
    (goal.iterator-loop-entry g).can_next l.entry-iterator ×
    (goal.iterator-loop-entry g).is_finite l.entry-iterator ×
    shadow (Utf8 l.comma)
