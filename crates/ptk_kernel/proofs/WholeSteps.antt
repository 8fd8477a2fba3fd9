-- A step, its entry and its ticks in the interval, one after another.
use Rattle.std.proofs.Common.{◌≡◌, ℕ, ◌<◌, ◌∙◌, ap}
use Rattle.std.specs.Prelude.{Some}
use Rattle.ptk_words_model.specs.declared.Runner.{Runner}
use Rattle.ptk_words_model.specs.State.{Part}
use Rattle.ptk_words_model.specs.Priority.{thread_at}
use Rattle.ptk_words_model.specs.Schedule.{after_interval}
use Rattle.ptk_words_model.specs.Decision.{after_step, after_whole_step, runner_of, step_cost}
use Rattle.ptk_gate.specs.Kept.{Kept, AreParts, part_at, put_part, limits_at}
use Rattle.ptk_gate.specs.NextStep.{NextStep}
use Rattle.ptk_gate.specs.NextSteps.{next_step_in}
use Rattle.ptk_kernel.specs.StepParts.{noted, stepped}
use Rattle.ptk_kernel.proofs.Moves.{moved_then}
use Rattle.ptk_kernel.proofs.Turns.{counted, next_is, whole_is}

-- the step and then its entry
pub step_made : (n p tick : ℕ) (next : NextStep) (r : Runner) (old mid new : Kept) → AreParts n old → p < n → next_step_in (part_at p old) ≡ Some next → runner_of (part_at p old) ≡ Some r
    → mid ≡ put_part p (after_step (limits_at p old) tick r next.kind (part_at p old)) old → new ≡ put_part p (noted tick next (part_at p mid)) mid
    → new ≡ put_part p (stepped (limits_at p old) tick r next.kind (part_at p old)) old
step_made n p tick next r old mid new parts lt e runs first second =
    let moved : Part = after_step (limits_at p old) tick r next.kind (part_at p old) in
    moved_then n p moved (λ limits s. noted tick next s) old mid new parts lt first second
    ∙ ap (λ (n : NextStep). put_part p (noted tick n moved) old) (next_is (part_at p old) next r e runs)

-- the step with its entry and then its ticks in the interval
pub whole_made : (n p tick cost : ℕ) (next : NextStep) (r : Runner) (old mid new : Kept) → AreParts n old → p < n → next_step_in (part_at p old) ≡ Some next → runner_of (part_at p old) ≡ Some r → cost ≡ step_cost next.kind
    → mid ≡ put_part p (stepped (limits_at p old) tick r next.kind (part_at p old)) old
    → new ≡ put_part p (after_interval (limits_at p mid).interval cost next.thread (thread_at (part_at p mid).locks next.thread) (part_at p mid)) mid
    → new ≡ put_part p (after_whole_step (limits_at p old) tick r next.kind (part_at p old)) old
whole_made n p tick cost next r old mid new parts lt e runs paid first second =
    let s : Part = part_at p old in
    moved_then n p (stepped (limits_at p old) tick r next.kind s) (λ limits q. counted limits cost next.thread q) old mid new parts lt first second
    ∙ ap (λ (q : Part). put_part p q old) (whole_is (limits_at p old) tick cost next r s e runs paid)
