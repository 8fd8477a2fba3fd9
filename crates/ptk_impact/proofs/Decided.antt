-- No decision depends on the trace's length, and none on the output's limit as long as the output is within the smaller one.
use Rattle.std.proofs.Common.{◌≡◌, ℕ, Bool, true, false, List, Option, Some, None, refl, sym, ap, subst}
use Rattle.std.specs.Prelude.{if◌then◌else◌, nat_lt}
use Rattle.ptk_words.specs.declared.TheConstants.{A7}
use Rattle.ptk_words.specs.declared.sections.Limits.{Limits}
use Rattle.ptk_words.specs.Calls.{call_of}
use Rattle.ptk_words.specs.Processor.{register}
use Rattle.ptk_words_model.specs.Instructions.{Effect, Done, Call as Called, Break, Fault, effect_at}
use Rattle.ptk_words_model.specs.declared.Runner.{Runner}
use Rattle.ptk_words_model.specs.declared.Spent.TheVariants.{Step, Lost}
use Rattle.ptk_words_model.specs.declared.StepKind.{StepKind}
use Rattle.ptk_words_model.specs.declared.StepKind.TheVariants.{UnwindingStart, GateStep, CallStep, InstructionStep}
use Rattle.ptk_words_model.specs.State.{Part}
use Rattle.ptk_words_model.specs.Priority.{thread_at}
use Rattle.ptk_words_model.specs.Schedule.{after_interval}
use Rattle.ptk_words_model.specs.Calls.{Answer}
use Rattle.ptk_words_model.specs.Decision.{runner_of, with_thread_cpu, invocation, after_effect, after_step, entry_of, step_cost, step_kind, after_whole_step, Decision, turn, after_turn, ready_at, decision, after_decision}
use Rattle.ptk_impact.proofs.Rows.{others, IsAlike, answer_same}
use Rattle.ptk_impact.proofs.Written.{ready_kept, interval_kept}

effect_same : (output kept : ℕ) (limits : Limits) (tick t pc : ℕ) (effect : Effect) (s : Part)
    → IsAlike output limits.output s.console.output (after_effect limits tick t pc effect s).console.output
    → after_effect (others output kept limits) tick t pc effect s ≡ after_effect limits tick t pc effect s
effect_same output kept limits tick t pc (Done cpu memory) s same = refl
effect_same output kept limits tick t pc (Called cpu) s same =
    ap (λ (a : Answer). a.part) (answer_same (call_of (register cpu A7)) output kept (invocation limits tick t cpu) (with_thread_cpu t cpu s) same)
effect_same output kept limits tick t pc Break s same = refl
effect_same output kept limits tick t pc (Fault kind) s same = refl

step_same : (output kept : ℕ) (limits : Limits) (tick : ℕ) (r : Runner) (kind : StepKind) (s : Part)
    → IsAlike output limits.output s.console.output (after_step limits tick r kind s).console.output
    → after_step (others output kept limits) tick r kind s ≡ after_step limits tick r kind s
step_same output kept limits tick r UnwindingStart s same = refl
step_same output kept limits tick r GateStep s same = refl
step_same output kept limits tick r (CallStep number) s same = effect_same output kept limits tick r.number r.thread.cpu.pc (effect_at r.thread.cpu s.memory) s same
step_same output kept limits tick r InstructionStep s same = effect_same output kept limits tick r.number r.thread.cpu.pc (effect_at r.thread.cpu s.memory) s same

-- the part after a step, with its last step
abbrev noted : ℕ → Runner → StepKind → Part → Part → Part
noted tick r kind s after = record after { last = Some (entry_of tick r kind s.memory (thread_at after.locks r.number)) }

-- and with its place in the round-robin interval
abbrev counted : Limits → ℕ → Runner → StepKind → Part → Part → Part
counted limits tick r kind s after = after_interval limits.interval (step_cost kind) r.number (thread_at after.locks r.number) (noted tick r kind s after)

-- the turn of a thread with this step next, by whether its cost is too much for the room
abbrev made_or_lost : Bool → Limits → ℕ → Runner → StepKind → Part → Decision
made_or_lost lost limits tick r kind s = if lost then record { spent = Lost; part = s } else record { spent = Step (step_cost kind); part = after_whole_step limits tick r kind s }

turn_by : (lost : Bool) (output kept : ℕ) (limits : Limits) (tick : ℕ) (r : Runner) (kind : StepKind) (s : Part)
    → IsAlike output limits.output s.console.output (made_or_lost lost limits tick r kind s).part.console.output
    → made_or_lost lost (others output kept limits) tick r kind s ≡ made_or_lost lost limits tick r kind s
turn_by true output kept limits tick r kind s same = refl
turn_by false output kept limits tick r kind s same =
    let after : Part = after_step limits tick r kind s in
    let left : (after_whole_step limits tick r kind s).console.output ≡ after.console.output =
    interval_kept limits.interval (step_cost kind) r.number (thread_at after.locks r.number) (noted tick r kind s after) in
    ap (λ (u : Part). record { spent = Step (step_cost kind); part = counted limits tick r kind s u }) (step_same output kept limits tick r kind s (subst (IsAlike output limits.output s.console.output) left same))

turn_same : (output kept : ℕ) (limits : Limits) (tick room : ℕ) (o : Option Runner) (s : Part)
    → IsAlike output limits.output s.console.output (after_turn limits tick room o s).console.output
    → turn (others output kept limits) tick room o s ≡ turn limits tick room o s
turn_same output kept limits tick room None s same = refl
turn_same output kept limits tick room (Some r) s same =
    let kind : StepKind = step_kind s r.number r.thread in
    turn_by (nat_lt room (step_cost kind)) output kept limits tick r kind s same

pub decision_same : (output kept : ℕ) (limits : Limits) (tick room : ℕ) (s : Part)
    → IsAlike output limits.output s.console.output (after_decision limits tick room s).console.output
    → decision (others output kept limits) tick room s ≡ decision limits tick room s
decision_same output kept limits tick room s same =
    let ready : Part = ready_at limits tick s in
    turn_same output kept limits tick room (runner_of ready) ready
    (subst (λ (before : List ℕ). IsAlike output limits.output before (after_decision limits tick room s).console.output) (sym (ready_kept limits tick s)) same)
