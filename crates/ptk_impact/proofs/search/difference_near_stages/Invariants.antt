use Rattle.std.proofs.Common.{ℕ, ◌+◌, ◌*◌, ◌<◌, ◌≤◌, get_or}
use Rattle.std.specs.Prelude.{IfSome}
use Rattle.ptk_words_model.specs.Windows.{Stage}
use Rattle.ptk_impact.specs.Agreement.{Agree, IsDifference}
use Rattle.ptk_impact.specs.Search.{IsBefore}
use Rattle.ptk_impact.proofs.search.difference_near_stages.Given as goal

abbrev pub invariant-loop-stage : goal.invariant-loop-stage
invariant-loop-stage l = record {
  differ : IfSome l.first (IsDifference l.plan l.partition l.other_plan l.other_partition);
  agree : (i k : ℕ) (d : Stage) → i < l.stage → (get_or l.staged.stages i d).from * l.staged.frame ≤ k
      → k < (get_or l.staged.stages i d).from * l.staged.frame + (l.plan.frame + l.other_plan.frame) → IsBefore k l.first → Agree l.plan l.partition l.other_plan l.other_partition k;
}
