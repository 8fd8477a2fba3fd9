-- A decision takes up a tick at least.
use Rattle.std.proofs.Common.{◌≡◌, ℕ, ◌≤◌, nat_lt, Option, Some, None, lit≤, sym, subst}
use Rattle.std.specs.Prelude.{option_map, unwrap_or}
use Rattle.std.proofs.lemmas.Bool.{cond_both}
use Rattle.ptk_words.specs.Calls.{ticks_of, call_of}
use Rattle.ptk_words.specs.declared.calls.Call.{Call}
use Rattle.ptk_words.specs.declared.calls.Call.TheVariants as call
use Rattle.ptk_words.specs.declared.sections.Limits.{Limits}
use Rattle.ptk_words_model.specs.declared.Runner.{Runner}
use Rattle.ptk_words_model.specs.declared.Spent.{Spent}
use Rattle.ptk_words_model.specs.declared.StepKind.{StepKind}
use Rattle.ptk_words_model.specs.declared.StepKind.TheVariants.{CallStep, GateStep, InstructionStep, UnwindingStart}
use Rattle.ptk_words_model.specs.State.{Part}
use Rattle.ptk_words_model.specs.Decision.{Decision, step_kind, step_cost, spent_in_turn, spent_by_decision, ready_at, runner_of}
use Rattle.ptk_system_machine.specs.Accounts.{duration_of}

ticks_positive : (known : Call) → 1 ≤ ticks_of known
ticks_positive call.Exit = lit≤ tt
ticks_positive _ = lit≤ tt

call_costs : (o : Option Call) → 1 ≤ unwrap_or (option_map ticks_of o) 2
call_costs None = lit≤ tt
call_costs (Some known) = ticks_positive known

step_costs : (kind : StepKind) → 1 ≤ step_cost kind
step_costs UnwindingStart = lit≤ tt
step_costs GateStep = lit≤ tt
step_costs (CallStep number) = call_costs (call_of number)
step_costs InstructionStep = lit≤ tt

turn_costs : (limits : Limits) (tick room : ℕ) (r : Option Runner) (s : Part) → 1 ≤ room → 1 ≤ duration_of room (spent_in_turn limits tick room r s)
turn_costs limits tick room None s some = lit≤ tt
turn_costs limits tick room (Some r) s some =
    let kind : StepKind = step_kind s r.number r.thread in
    cond_both (nat_lt room (step_cost kind)) _ _ (λ (d : Decision). 1 ≤ duration_of room d.spent) (λ e. some) (λ e. step_costs kind)

-- what was told of a decision takes up a tick at least
pub decision_costs : (limits : Limits) (tick room : ℕ) (s : Part) (spent : Spent) → 1 ≤ room → spent ≡ spent_by_decision limits tick room s → 1 ≤ duration_of room spent
decision_costs limits tick room s spent some told =
    subst (λ (spent : Spent). 1 ≤ duration_of room spent) (sym told) (turn_costs limits tick room (runner_of (ready_at limits tick s)) (ready_at limits tick s) some)

-- what was told of a turn takes up a tick at least
pub turn_told_costs : (limits : Limits) (tick room : ℕ) (s : Part) (spent : Spent) → 1 ≤ room → spent ≡ spent_in_turn limits tick room (runner_of s) s → 1 ≤ duration_of room spent
turn_told_costs limits tick room s spent some told = subst (λ (spent : Spent). 1 ≤ duration_of room spent) (sym told) (turn_costs limits tick room (runner_of s) s some)
