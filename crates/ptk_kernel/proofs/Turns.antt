-- The running thread's next step, read where the thread lies, is the step that the model makes.
use Rattle.std.proofs.Common.{length, ◌≡◌, ℕ, ◌+◌, ◌^◌, ◌<◌, ◌≤◌, Bool, true, false, refl, sym, ◌∙◌, ap, subst, rules}
use Rattle.std.specs.Prelude.{Option, Some, None, ◌==◌, option_map, unwrap_or, nat_lt, if◌then◌else◌}
use Rattle.std.proofs.lemmas.Bool.{lt-ltb}
use Rattle.ptk_words.specs.Processor.{Processor, register}
use Rattle.ptk_words.specs.Words.{word_of}
use Rattle.ptk_words.specs.declared.TheConstants.{A0, A7, ECALL, RETURN_GATE}
use Rattle.ptk_words.specs.declared.sections.Limits.{Limits}
use Rattle.ptk_words.specs.declared.threads.Thread.{Thread}
use Rattle.ptk_words_model.specs.Instructions.{Effect, effect_at, with_next_pc}
use Rattle.ptk_words_model.specs.declared.Runner.{Runner}
use Rattle.ptk_words_model.specs.declared.Spent.TheVariants.{Step, Idle, Lost}
use Rattle.ptk_words_model.specs.declared.StepKind.{StepKind}
use Rattle.ptk_words_model.specs.declared.StepKind.TheVariants.{UnwindingStart, GateStep, CallStep, InstructionStep}
use Rattle.ptk_words_model.specs.State.{Part}
use Rattle.ptk_words_model.specs.Priority.{thread_at}
use Rattle.ptk_words_model.specs.Schedule.{after_interval}
use Rattle.ptk_words_model.specs.Decision.{after_effect, after_step, Decision, turn, after_turn, after_whole_step, is_to_unwind, runner_of, spent_in_turn, step_cost, step_kind, traced_word, with_thread_cpu, word_fetched}
use Rattle.ptk_words_invariant.proofs.Decisions.{runner_runs}
use Rattle.ptk_gate.specs.Kept.{Kept, part_at, put_part, limits_at}
use Rattle.ptk_gate.proofs.Ranks.{put_same}
use Rattle.ptk_gate.specs.NextStep.{NextStep}
use Rattle.ptk_gate.specs.Instructions.{after_instruction}
use Rattle.ptk_gate.specs.NextSteps.{a0_kept, cpu_of, next_step_in, next_step_of}
use Rattle.ptk_gate.specs.Answers.{call_answer}
use Rattle.ptk_gate.specs.CallSteps.{past_ecall}
use Rattle.ptk_gate.proofs.CallSteps.{a0_is, call_fetched, ecall_calls, runner_found}
use Rattle.ptk_gate.proofs.Passing.{passed_as}
use Rattle.ptk_kernel.specs.StepParts.{stepped}
use Rattle.ptk_kernel.proofs.Instructions.{call_parts, effect_alone}
use Rattle.ptk_kernel.proofs.NoCalls.{no_call_at}

-- the thread's step of so many ticks counts in its round-robin interval (XSH 2.8.4, SCHED_RR)
abbrev pub counted : Limits → ℕ → ℕ → Part → Part
counted limits cost t s = after_interval limits.interval cost t (thread_at s.locks t) s

-- ---- the thread whose step it is

no_runner : (s : Part) (o : Option Runner) → option_map (next_step_of s) o ≡ None → o ≡ None
no_runner s None e = refl
no_runner s (Some r) e = absurd (let no : ⊥ = cc in no)

step_is : (s : Part) (next : NextStep) (o : Option Runner) (r : Runner) → option_map (next_step_of s) o ≡ Some next → o ≡ Some r → next ≡ next_step_of s r
step_is s next o r e runs = ap (λ (x : Option NextStep). unwrap_or x next) (sym e ∙ ap (option_map (next_step_of s)) runs)

-- the step that was read is that of the thread that runs
pub next_is : (s : Part) (next : NextStep) (r : Runner) → next_step_in s ≡ Some next → runner_of s ≡ Some r → next ≡ next_step_of s r
next_is s next r e runs = step_is s next (runner_of s) r e runs

running_by : (s : Part) (next : NextStep) (o : Option Runner) → runner_of s ≡ o → option_map (next_step_of s) o ≡ Some next → s.running ≡ Some next.thread
running_by s next None runs e = absurd (let no : ⊥ = cc in no)
running_by s next (Some r) runs e =
    runner_runs s r runs ∙ sym (ap (λ (n : NextStep). Some n.thread) (step_is s next (Some r) r e refl))

-- a thread runs, whose step was read
pub next_runs : (s : Part) (next : NextStep) → next_step_in s ≡ Some next → s.running ≡ Some next.thread
next_runs s next e = running_by s next (runner_of s) refl e

runner_by : (s : Part) (next : NextStep) (o : Option Runner) → option_map (next_step_of s) o ≡ Some next → (r : Runner) × (o ≡ Some r)
runner_by s next None e = absurd (let no : ⊥ = cc in no)
runner_by s next (Some r) e = (r, refl)

-- the partition is still one of as many
pub within_after : (p : ℕ) (next : NextStep) (old new : Kept) (after : Runner → Part) → next_step_in (part_at p old) ≡ Some next → p < length old.limits
    → ((r : Runner) → runner_of (part_at p old) ≡ Some r → new ≡ put_part p (after r) old) → p < length new.limits
within_after p next old new after e lt moved =
    let found = runner_by (part_at p old) next (runner_of (part_at p old)) e in
    let same : length new.limits ≡ length old.limits = ap (λ (kept : Kept). length kept.limits) (moved found.0 found.1) in
    rw same lt

-- ---- a turn

idle_by : (limits : Limits) (tick room : ℕ) (s : Part) (o : Option Runner) → o ≡ None → record { spent = Idle; part = s } ≡ turn limits tick room o s
idle_by limits tick room s o e = rw e refl

-- no thread runs, and nothing changes
pub idle_moved : (p tick room : ℕ) (kept : Kept) (o : Option NextStep) → o ≡ next_step_in (part_at p kept) → o ≡ None
    → kept ≡ put_part p (after_turn (limits_at p kept) tick room (runner_of (part_at p kept)) (part_at p kept)) kept
idle_moved p tick room kept o told e =
    let s : Part = part_at p kept in
    put_same p kept ∙ ap (λ (d : Decision). put_part p d.part kept) (idle_by (limits_at p kept) tick room s (runner_of s) (no_runner s (runner_of s) (sym told ∙ e)))

pub idle_told : (limits : Limits) (tick room : ℕ) (s : Part) (o : Option NextStep) → o ≡ next_step_in s → o ≡ None → Idle ≡ spent_in_turn limits tick room (runner_of s) s
idle_told limits tick room s o told e = ap (λ (d : Decision). d.spent) (idle_by limits tick room s (runner_of s) (no_runner s (runner_of s) (sym told ∙ e)))

not_below : (a b : ℕ) → b ≤ a → nat_lt a b ≡ false
not_below a b h = search rules

-- whether the cost of the step fits is tested on what was read
tested : (room cost : ℕ) (b : Bool) (s : Part) (next : NextStep) (r : Runner) → next ≡ next_step_of s r → cost ≡ step_cost next.kind → nat_lt room cost ≡ b → nat_lt room (step_cost (step_kind s r.number r.thread)) ≡ b
tested room cost b s next r is paid e = ap (λ (n : NextStep). nat_lt room (step_cost n.kind)) (sym is) ∙ ap (nat_lt room) (sym paid) ∙ e

lost_by : (limits : Limits) (tick room cost : ℕ) (s : Part) (next : NextStep) (o : Option Runner) → option_map (next_step_of s) o ≡ Some next → cost ≡ step_cost next.kind → room < cost
    → record { spent = Lost; part = s } ≡ turn limits tick room o s
lost_by limits tick room cost s next None e paid lt = absurd (let no : ⊥ = cc in no)
lost_by limits tick room cost s next (Some r) e paid lt = rw (tested room cost true s next r (step_is s next (Some r) r e refl) paid (lt-ltb room cost lt)) refl

-- the cost does not fit, and nothing changes
pub lost_moved : (p tick room cost : ℕ) (kept : Kept) (next : NextStep) → next_step_in (part_at p kept) ≡ Some next → cost ≡ step_cost next.kind → room < cost
    → kept ≡ put_part p (after_turn (limits_at p kept) tick room (runner_of (part_at p kept)) (part_at p kept)) kept
lost_moved p tick room cost kept next e paid lt =
    let s : Part = part_at p kept in
    put_same p kept ∙ ap (λ (d : Decision). put_part p d.part kept) (lost_by (limits_at p kept) tick room cost s next (runner_of s) e paid lt)

pub lost_told : (limits : Limits) (tick room cost : ℕ) (s : Part) (next : NextStep) → next_step_in s ≡ Some next → cost ≡ step_cost next.kind → room < cost → Lost ≡ spent_in_turn limits tick room (runner_of s) s
lost_told limits tick room cost s next e paid lt = ap (λ (d : Decision). d.spent) (lost_by limits tick room cost s next (runner_of s) e paid lt)

made_by : (limits : Limits) (tick room cost : ℕ) (s : Part) (next : NextStep) (o : Option Runner) → option_map (next_step_of s) o ≡ Some next → cost ≡ step_cost next.kind → cost ≤ room
    → (r : Runner) × (o ≡ Some r) × (record { spent = Step cost; part = after_whole_step limits tick r next.kind s } ≡ turn limits tick room o s)
made_by limits tick room cost s next None e paid le = absurd (let no : ⊥ = cc in no)
made_by limits tick room cost s next (Some r) e paid le =
    let is : next ≡ next_step_of s r = step_is s next (Some r) r e refl in
    let made : ℕ → StepKind → Decision = λ c kind. record { spent = Step c; part = after_whole_step limits tick r kind s } in (
      r,
      refl,
      ap (λ (c : ℕ). made c next.kind) paid ∙ ap (λ (n : NextStep). made (step_cost n.kind) n.kind) is ∙ rw (tested room cost false s next r is paid (not_below room cost le)) refl,
    )

-- the cost fits, and the step is made
pub step_moved : (p tick room cost : ℕ) (old new : Kept) (next : NextStep) → next_step_in (part_at p old) ≡ Some next → cost ≡ step_cost next.kind → cost ≤ room
    → ((r : Runner) → runner_of (part_at p old) ≡ Some r → new ≡ put_part p (after_whole_step (limits_at p old) tick r next.kind (part_at p old)) old)
    → new ≡ put_part p (after_turn (limits_at p old) tick room (runner_of (part_at p old)) (part_at p old)) old
step_moved p tick room cost old new next e paid le moved =
    let made = made_by (limits_at p old) tick room cost (part_at p old) next (runner_of (part_at p old)) e paid le in
    moved made.0 made.1 ∙ ap (λ (d : Decision). put_part p d.part old) made.2

pub step_told : (limits : Limits) (tick room cost : ℕ) (s : Part) (next : NextStep) → next_step_in s ≡ Some next → cost ≡ step_cost next.kind → cost ≤ room → Step cost ≡ spent_in_turn limits tick room (runner_of s) s
step_told limits tick room cost s next e paid le = ap (λ (d : Decision). d.spent) (made_by limits tick room cost s next (runner_of s) e paid le).2

-- ---- an ECALL

-- the pc passed, and then the call, are the step of an ECALL
pub call_stepped : (limits : Limits) (tick number : ℕ) (next : NextStep) (r : Runner) (s : Part) → next_step_in s ≡ Some next → runner_of s ≡ Some r → next.kind ≡ CallStep number
    → (call_answer limits tick (past_ecall next.thread next.pc s)).part ≡ after_step limits tick r next.kind s
call_stepped limits tick number next r s e runs kind =
    let cpu : Processor = r.thread.cpu in
    let after : Processor = with_next_pc cpu in
    let is : next ≡ next_step_of s r = next_is s next r e runs in
    let word : word_fetched s.memory cpu.pc ≡ ECALL = call_fetched r.number number r.thread s (sym (ap (λ (n : NextStep). n.kind) is) ∙ kind) in
    let found : thread_at s.locks r.number ≡ Some r.thread = runner_found s.running s r (runner_runs s r runs) runs in
    let gone : past_ecall next.thread next.pc s ≡ with_thread_cpu r.number after s = ap (λ (n : NextStep). past_ecall n.thread n.pc s) is ∙ passed_as r.number (word_of (cpu.pc + 4)) r.thread s found in
    ap (λ (q : Part). (call_answer limits tick q).part) gone
    ∙ call_parts limits tick cpu.pc after r s runs
    ∙ ap (λ (effect : Effect). after_effect limits tick r.number cpu.pc effect s) (sym (ecall_calls cpu s.memory word))
    ∙ ap (λ (k : StepKind). after_step limits tick r k s) (sym kind)

kind_instructs : (unwinds gate calls : Bool) (a7 : ℕ) → (if unwinds then UnwindingStart else if gate then GateStep else if calls then CallStep a7 else InstructionStep) ≡ InstructionStep → calls ≡ false
kind_instructs true gate calls a7 e = absurd (let no : ⊥ = cc in no)
kind_instructs false true calls a7 e = absurd (let no : ⊥ = cc in no)
kind_instructs false false true a7 e = absurd (let no : ⊥ = cc in no)
kind_instructs false false false a7 e = refl

-- what an instruction leaves that is no ECALL is its step
pub instruction_stepped : (limits : Limits) (tick : ℕ) (next : NextStep) (r : Runner) (s : Part) → next_step_in s ≡ Some next → runner_of s ≡ Some r → next.kind ≡ InstructionStep → next.word < 2 ^ 32
    → after_instruction r.number r.thread.cpu.pc (effect_at r.thread.cpu s.memory) s ≡ after_step limits tick r next.kind s
instruction_stepped limits tick next r s e runs kind word =
    let cpu : Processor = r.thread.cpu in
    let is : next ≡ next_step_of s r = next_is s next r e runs in
    let same : step_kind s r.number r.thread ≡ InstructionStep = sym (ap (λ (n : NextStep). n.kind) is) ∙ kind in
    let fetched : next.word ≡ word_fetched s.memory cpu.pc = ap (λ (n : NextStep). n.word) is ∙ ap (λ (k : StepKind). traced_word k s.memory cpu.pc) same in
    let other : (word_fetched s.memory cpu.pc == ECALL) ≡ false =
    kind_instructs (is_to_unwind s r.number r.thread) (cpu.pc == RETURN_GATE) (word_fetched s.memory cpu.pc == ECALL) (register cpu A7) same
    in
    effect_alone limits tick r.number cpu.pc (effect_at cpu s.memory) s (no_call_at cpu s.memory (subst (λ (n : ℕ). n < 2 ^ 32) fetched word) other)
    ∙ ap (λ (k : StepKind). after_step limits tick r k s) (sym kind)

-- the registers that were read are the runner's, and what its instruction leaves that is no ECALL is its step
pub instruction_made : (p tick : ℕ) (next : NextStep) (cpu : Processor) (r : Runner) (old new : Kept) → next_step_in (part_at p old) ≡ Some next → next.kind ≡ InstructionStep → next.word < 2 ^ 32
    → cpu ≡ cpu_of (thread_at (part_at p old).locks next.thread) → runner_of (part_at p old) ≡ Some r
    → new ≡ put_part p (after_instruction next.thread cpu.pc (effect_at cpu (part_at p old).memory) (part_at p old)) old
    → new ≡ put_part p (after_step (limits_at p old) tick r next.kind (part_at p old)) old
instruction_made p tick next cpu r old new e kind word read runs moved =
    let s : Part = part_at p old in
    let number : next.thread ≡ r.number = ap (λ (n : NextStep). n.thread) (next_is s next r e runs) in
    let found : thread_at s.locks r.number ≡ Some r.thread = runner_found s.running s r (runner_runs s r runs) runs in
    let there : thread_at s.locks next.thread ≡ Some r.thread = ap (thread_at s.locks) number ∙ found in
    let same : cpu ≡ r.thread.cpu = read ∙ ap cpu_of there in
    moved
    ∙ ap (λ (t : ℕ). put_part p (after_instruction t cpu.pc (effect_at cpu s.memory) s) old) number
    ∙ ap (λ (c : Processor). put_part p (after_instruction r.number c.pc (effect_at c s.memory) s) old) same
    ∙ ap (λ (q : Part). put_part p q old) (instruction_stepped (limits_at p old) tick next r s e runs kind word)

-- ---- the whole step

whole_as : (limits : Limits) (tick : ℕ) (kind : StepKind) (r : Runner) (s : Part) → kind ≡ step_kind s r.number r.thread
    → counted limits (step_cost kind) r.number (stepped limits tick r kind s) ≡ after_whole_step limits tick r kind s
whole_as limits tick kind r s e =
    let after : Part = after_step limits tick r kind s in
    let thread : Option Thread = thread_at after.locks r.number in
    let entry : StepKind → ℕ → Part = λ (k : StepKind). λ (a0 : ℕ).
    record after { last = Some (record { tick = tick; thread = r.number; pc = r.thread.cpu.pc; word = traced_word k s.memory r.thread.cpu.pc; a0 = a0 }) } in
    ap (λ (k : StepKind). counted limits (step_cost kind) r.number (entry k (a0_kept (register r.thread.cpu A0) thread))) (sym e)
    ∙ ap (λ (a0 : ℕ). counted limits (step_cost kind) r.number (entry kind a0)) (a0_is r.thread thread)

-- the step, its entry and its ticks in the interval are the whole step
pub whole_is : (limits : Limits) (tick cost : ℕ) (next : NextStep) (r : Runner) (s : Part) → next_step_in s ≡ Some next → runner_of s ≡ Some r → cost ≡ step_cost next.kind
    → counted limits cost next.thread (stepped limits tick r next.kind s) ≡ after_whole_step limits tick r next.kind s
whole_is limits tick cost next r s e runs paid =
    let is : next ≡ next_step_of s r = next_is s next r e runs in
    ap (λ (c : ℕ). counted limits c next.thread (stepped limits tick r next.kind s)) paid
    ∙ ap (λ (n : NextStep). counted limits (step_cost n.kind) n.thread (stepped limits tick r n.kind s)) is
    ∙ whole_as limits tick (step_kind s r.number r.thread) r s refl
    ∙ sym (ap (λ (n : NextStep). after_whole_step limits tick r n.kind s) is)

pub ruleset turns = (idle_moved, idle_told, lost_moved, lost_told, step_moved, step_told)
