-- What a step leaves of the thread that makes it: the number of its call, and that no other thread runs behind it.
use Rattle.std.specs.Prelude.{◌≡◌, Option, Some, None}
use Rattle.ptk_words.specs.Names.{Pointer, ThreadNumber, Tick, Word}
use Rattle.ptk_words.specs.declared.TheConstants.{A7}
use Rattle.ptk_words.specs.Pools.{pool_get}
use Rattle.ptk_words.specs.Processor.{Processor, register}
use Rattle.ptk_words.specs.declared.calls.Call.{Call}
use Rattle.ptk_words.specs.declared.sections.Limits.{Limits}
use Rattle.ptk_words.specs.declared.threads.Thread.{Thread}
use Rattle.ptk_words_model.specs.Instructions.{Call as EnvironmentCall}
use Rattle.ptk_words_model.specs.State.{Part}
use Rattle.ptk_words_model.specs.declared.Invocation.{Invocation}
use Rattle.ptk_words_model.specs.declared.Runner.{Runner}
use Rattle.ptk_words_model.specs.declared.StepKind.{StepKind}
use Rattle.ptk_words_model.specs.CallTable.{answer_of}
use Rattle.ptk_words_model.specs.Decision.{after_effect, after_whole_step}

-- the number of a call is in a7 of this thread, if there is one (RISC-V 2.8; own)
abbrev pub HasNumber : Word → Option Thread → Type 0
HasNumber number None = Unit {0}
HasNumber number (Some thread) = register thread.cpu A7 ≡ number

-- no thread runs but the one of this number (XSH 2.8.4)
abbrev pub RunsNoOther : ThreadNumber → Option ThreadNumber → Type 0
RunsNoOther t None = Unit {0}
RunsNoOther t (Some u) = u ≡ t

-- the thread has the number of the call in a7 while its own number is in use, and no other thread runs (own)
pub record IsCaller (number : Word) (t : ThreadNumber) (part : Part) : Type 0 where
  pub calls : HasNumber number (pool_get part.threads t)
  pub runs : RunsNoOther t part.running

-- a call leaves its caller what is in a7, and no other thread runs behind it (own)
abbrev pub CallsKeepCallers : Part → Type 0
CallsKeepCallers part = (known : Call) → (i : Invocation) → (number : Word) → IsCaller number i.caller part → IsCaller number i.caller (answer_of known i part).part

-- so behind the step that is an ECALL, of any number (RISC-V 2.8)
abbrev pub StepsKeepCallers : Part → Type 0
StepsKeepCallers part =
    (limits : Limits) → (tick : Tick) → (caller : ThreadNumber) → (pc : Pointer) → (cpu : Processor) → RunsNoOther caller part.running
    → IsCaller (register cpu A7) caller (after_effect limits tick caller pc (EnvironmentCall cpu) part)

-- behind a step, with its place in the round-robin interval, no thread runs but the one that made it (XSH 2.8.4)
abbrev pub StepsRunNoOthers : Part → Type 0
StepsRunNoOthers part =
    (limits : Limits) → (tick : Tick) → (r : Runner) → (kind : StepKind) → RunsNoOther r.number part.running → RunsNoOther r.number (after_whole_step limits tick r kind part).running
