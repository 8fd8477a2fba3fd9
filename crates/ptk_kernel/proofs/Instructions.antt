-- An instruction's effect is its own, and that of an ECALL its call's.
use Rattle.std.proofs.Common.{◌≡◌, ℕ, false, sym, ◌∙◌, ap, refl}
use Rattle.std.specs.Prelude.{Option, Some, option_map}
use Rattle.std.proofs.lemmas.Bool.{false≢true}
use Rattle.ptk_words.specs.Processor.{Processor}
use Rattle.ptk_words.specs.declared.sections.Limits.{Limits}
use Rattle.ptk_words.specs.declared.threads.Thread.{Thread}
use Rattle.ptk_words.proofs.Pools.{changed_own}
use Rattle.ptk_words_model.specs.Instructions.{Effect, Done, Call, Break, Fault}
use Rattle.ptk_words_model.specs.declared.Runner.{Runner}
use Rattle.ptk_words_model.specs.State.{Part}
use Rattle.ptk_words_model.specs.Priority.{thread_at}
use Rattle.ptk_words_model.specs.Decision.{runner_at, runner_in, runner_of, with_thread_cpu, after_effect}
use Rattle.ptk_words_invariant.proofs.Decisions.{runner_runs}
use Rattle.ptk_gate.specs.Instructions.{after_instruction}
use Rattle.ptk_gate.specs.Answers.{call_answer, runner_answer}
use Rattle.ptk_gate.proofs.CallSteps.{runner_found}
use Rattle.ptk_kernel.proofs.NoCalls.{calls}

-- ---- the runner, whose registers change

-- the runner has the registers that are put
runner_of-with_cpu : (cpu : Processor) (r : Runner) (s : Part) → runner_of s ≡ Some r → runner_of (with_thread_cpu r.number cpu s) ≡ Some (record { number = r.number; thread = record r.thread { cpu = cpu } })
runner_of-with_cpu cpu r s e =
    let runs : s.running ≡ Some r.number = runner_runs s r e in
    let f : Thread → Thread = λ thread. record thread { cpu = cpu } in
    let found : thread_at s.locks r.number ≡ Some r.thread = runner_found s.running s r runs e in
    ap (λ (o : Option ℕ). runner_in o (with_thread_cpu r.number cpu s)) runs
    ∙ ap (runner_at r.number) (changed_own r.number f s.threads ∙ ap (option_map f) found)

-- ---- an instruction and its call

-- a thread's registers with the pc past an ECALL, and then the call that they state, are the effect of that ECALL
pub call_parts : (limits : Limits) (tick pc : ℕ) (cpu : Processor) (r : Runner) (s : Part) → runner_of s ≡ Some r
    → (call_answer limits tick (with_thread_cpu r.number cpu s)).part ≡ after_effect limits tick r.number pc (Call cpu) s
call_parts limits tick pc cpu r s runs = ap (λ (o : Option Runner). (runner_answer o limits tick (with_thread_cpu r.number cpu s)).part) (runner_of-with_cpu cpu r s runs)

-- an effect that makes no call is that of the instruction alone
pub effect_alone : (limits : Limits) (tick t pc : ℕ) (e : Effect) (s : Part) → calls e ≡ false → after_instruction t pc e s ≡ after_effect limits tick t pc e s
effect_alone limits tick t pc (Done cpu memory) s alone = refl
effect_alone limits tick t pc (Call cpu) s alone = absurd (false≢true (sym alone))
effect_alone limits tick t pc Break s alone = refl
effect_alone limits tick t pc (Fault kind) s alone = refl
