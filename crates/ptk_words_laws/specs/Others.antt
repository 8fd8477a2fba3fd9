-- Which calls act on another thread than the one that makes them.
use Rattle.std.specs.Prelude.{◌≡◌, ◌≢◌, ℕ, Bool, true, false, List, [], Option, Some, None}
use Rattle.ptk_words.specs.Names.{Byte, Pointer, ThreadNumber, Tick, Ticks}
use Rattle.ptk_words.specs.declared.TheConstants.{A7}
use Rattle.ptk_words.specs.Calls.{call_of}
use Rattle.ptk_words.specs.Pools.{pool_get}
use Rattle.ptk_words.specs.Processor.{register}
use Rattle.ptk_words.specs.declared.calls.Call.{Call}
use Rattle.ptk_words.specs.declared.calls.Call.TheVariants as call
use Rattle.ptk_words.specs.declared.sections.Limits.{Limits}
use Rattle.ptk_words.specs.declared.threads.Phase.{Phase}
use Rattle.ptk_words.specs.declared.threads.Thread.{Thread}
use Rattle.ptk_words.specs.declared.threads.Wait.{Wait}
use Rattle.ptk_words_model.specs.Instructions.{Effect, Done, Call as EnvironmentCall, Break, Fault, effect_at}
use Rattle.ptk_words_model.specs.State.{Part}
use Rattle.ptk_words_model.specs.declared.Invocation.{Invocation}
use Rattle.ptk_words_model.specs.CallTable.{answer_of}
use Rattle.ptk_words_model.specs.Console.{arriving}
use Rattle.ptk_words_model.specs.Decision.{after_decision, after_effect, ready_at, runner_of, step_kind}
use Rattle.ptk_words_model.specs.Withdrawal.{due}
use Rattle.ptk_words_model.specs.declared.Runner.{Runner}
use Rattle.ptk_words_model.specs.declared.StepKind.{StepKind}
use Rattle.ptk_words_model.specs.declared.StepKind.TheVariants.{UnwindingStart, GateStep, CallStep, InstructionStep}

-- the call can wake, make, cancel, end or free another thread, or halts the partition (own)
abbrev pub acts_on_others : Call → Bool
acts_on_others call.Exit = true
acts_on_others call.ConsolePut = false
acts_on_others call.ConsoleGet = false
acts_on_others call.ClockGettime = false
acts_on_others call.ClockNanosleep = false
acts_on_others call.PthreadCreate = true
acts_on_others call.PthreadExit = true
acts_on_others call.PthreadJoin = true
acts_on_others call.PthreadDetach = true
acts_on_others call.PthreadSelf = false
acts_on_others call.SchedYield = false
acts_on_others call.PthreadSetschedparam = false
acts_on_others call.PthreadGetschedparam = false
acts_on_others call.PthreadSetschedprio = false
acts_on_others call.MutexInit = false
acts_on_others call.MutexDestroy = false
acts_on_others call.MutexLock = false
acts_on_others call.MutexTrylock = false
acts_on_others call.MutexTimedlock = false
acts_on_others call.MutexUnlock = true
acts_on_others call.MutexConsistent = false
acts_on_others call.CondInit = false
acts_on_others call.CondDestroy = false
acts_on_others call.CondWait = true
acts_on_others call.CondTimedwait = true
acts_on_others call.CondSignal = true
acts_on_others call.CondBroadcast = true
acts_on_others call.PthreadCancel = true
acts_on_others call.PthreadSetcancelstate = false
acts_on_others call.PthreadSetcanceltype = false
acts_on_others call.PthreadTestcancel = false
acts_on_others call.CleanupPush = false
acts_on_others call.CleanupPop = false
acts_on_others call.KeyCreate = false
acts_on_others call.KeyDelete = false
acts_on_others call.PthreadSetspecific = false
acts_on_others call.PthreadGetspecific = false

-- so of the call that a number names; a number that names none is refused (own)
abbrev pub can_act_on_others : Option Call → Bool
can_act_on_others None = false
can_act_on_others (Some known) = acts_on_others known

-- so of an instruction: one that is no call acts on no other thread (RISC-V 2.8; own)
abbrev pub has_effect_on_others : Effect → Bool
has_effect_on_others (Done cpu memory) = false
has_effect_on_others (EnvironmentCall cpu) = can_act_on_others (call_of (register cpu A7))
has_effect_on_others Break = false
has_effect_on_others (Fault kind) = false

-- what a thread waits for, and how far it is on the way to its end; nothing of a free number (XSH 2.8.4)
abbrev pub standing : Option Thread → Option (Option Wait × Phase)
standing None = None
standing (Some thread) = Some (thread.wait, thread.phase)

-- a call that does not act on others leaves each thread but its caller with the wait and the phase that it had (own)
abbrev pub CallsLeaveOthers : Part → Type 0
CallsLeaveOthers part =
    (known : Call) → (i : Invocation) → (t : ℕ) → t ≢ i.caller → acts_on_others known ≡ false
    → standing (pool_get (answer_of known i part).part.threads t) ≡ standing (pool_get part.threads t)

-- so of a step of a thread at a pc, by its instruction's effect (own)
abbrev pub StepsLeaveOthers : Part → Type 0
StepsLeaveOthers part =
    (limits : Limits) → (tick : Tick) → (caller : ThreadNumber) → (pc : Pointer) → (effect : Effect) → (t : ℕ) → t ≢ caller → has_effect_on_others effect ≡ false
    → standing (pool_get (after_effect limits tick caller pc effect part).threads t) ≡ standing (pool_get part.threads t)

-- ---- whole decisions

-- so of a step by its kind, of a thread in a partition with this memory: a step at the return gate can end its thread (own)
abbrev pub acts_on_others_by : StepKind → Runner → List Byte → Bool
acts_on_others_by UnwindingStart r memory = false
acts_on_others_by GateStep r memory = true
acts_on_others_by (CallStep number) r memory = has_effect_on_others (effect_at r.thread.cpu memory)
acts_on_others_by InstructionStep r memory = has_effect_on_others (effect_at r.thread.cpu memory)

-- the thread does not run, and the step of the one that does acts on no other (own)
abbrev pub IsLeftBy : ℕ → Part → Option Runner → Type 0
IsLeftBy t ready None = Unit {0}
IsLeftBy t ready (Some r) = (t ≢ r.number) × (acts_on_others_by (step_kind ready r.number r.thread) r ready.memory ≡ false)

-- a decision at a tick by which no input arrives and no deadline expires leaves such a thread with the wait and the phase that it had (own)
abbrev pub DecisionsLeaveOthers : Part → Type 0
DecisionsLeaveOthers part =
    (limits : Limits) → (tick : Tick) → (room : Ticks) → (t : ℕ) → arriving tick part.console ≡ [] → due tick part ≡ [] → IsLeftBy t (ready_at limits tick part) (runner_of (ready_at limits tick part))
    → standing (pool_get (after_decision limits tick room part).threads t) ≡ standing (pool_get part.threads t)
