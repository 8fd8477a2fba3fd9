use Rattle.std.proofs.Common.{ℕ, ◌<◌, ◌≤◌}
use Rattle.ptk_words_model.specs.Windows.{IsOwn}
use Rattle.ptk_window.specs.Stages.{HasTick, plan_of}
use Rattle.ptk_window.proofs.near.Near.search_later.Given as goal

-- no stage before this one has a tick of the partition's from there on
abbrev pub invariant-loop-later : goal.invariant-loop-later
invariant-loop-later l = (j k : ℕ) → j < l.later → l.from ≤ k → HasTick l.frame l.tables j k → ¬ IsOwn (plan_of l.frame l.tables) l.partition k
