-- One decision of a partition at a tick of its own: arrivals, expiries, the choice, then idle, lost or a step (own).
use Rattle.std.specs.Prelude.{ℕ, ◌%◌, Bool, false, ◌&&◌, ◌||◌, List, [], ◌∷◌, fold, ◌==◌, nat_lt, if◌then◌else◌, Option, Some, None, option_map, unwrap_or}
use Rattle.ptk_words.specs.Names.{Byte, Pointer, ThreadNumber, Tick, Ticks, Word}
use Rattle.ptk_words.specs.declared.TheConstants.{A0, A1, A2, A3, A4, A7, ECALL, RETURN_GATE, CANCELED}
use Rattle.ptk_words.specs.Words.{word_at}
use Rattle.ptk_words.specs.Pools.{numbered, first_of_greatest}
use Rattle.ptk_words.specs.Processor.{Processor, register}
use Rattle.ptk_words.specs.Calls.{call_of, cost_of}
use Rattle.ptk_words.specs.declared.faults.Cause.TheVariants as cause
use Rattle.ptk_words.specs.declared.faults.Status.TheVariants.{Stopped}
use Rattle.ptk_words.specs.declared.sections.Arrival.{Arrival}
use Rattle.ptk_words.specs.declared.sections.Entry.{Entry}
use Rattle.ptk_words.specs.declared.sections.Limits.{Limits}
use Rattle.ptk_words.specs.declared.threads.Thread.{Thread}
use Rattle.ptk_words_model.specs.Instructions.{can_fetch, Effect, Done, Call, Break, Fault, effect_at}
use Rattle.ptk_words_model.specs.declared.Runner.{Runner}
use Rattle.ptk_words_model.specs.declared.Spent.{Spent}
use Rattle.ptk_words_model.specs.declared.Spent.TheVariants.{Step, Idle, Lost}
use Rattle.ptk_words_model.specs.declared.StepKind.{StepKind}
use Rattle.ptk_words_model.specs.declared.StepKind.TheVariants.{UnwindingStart, GateStep, CallStep, InstructionStep}
use Rattle.ptk_words_model.specs.State.{Part, with_locks, with_console, with_halt}
use Rattle.ptk_words_model.specs.Priority.{thread_at, effective_priority}
use Rattle.ptk_words_model.specs.Schedule.{with_thread, after_wake, after_choice, after_interval}
use Rattle.ptk_words_model.specs.Withdrawal.{after_expiries}
use Rattle.ptk_words_model.specs.Unwinding.{after_unwinding_start, after_gate_step}
use Rattle.ptk_words.specs.Threads.{is_normal, is_ended}
use Rattle.ptk_words_model.specs.Console.{with_input, without_waiter, arriving, without_arriving}
use Rattle.ptk_words_model.specs.declared.Invocation.{Invocation}
use Rattle.ptk_words_model.specs.CallTable.{answer_to}

-- ---- arrivals

-- the byte wakes the waiter; without one it goes into the ring, or is lost where that is full (own)
abbrev pub after_arrival_for : Option ThreadNumber → ℕ → Byte → Part → Part
after_arrival_for (Some t) limit byte s = with_locks (after_wake t (0 ∷ byte ∷ [])) (with_console (without_waiter t) s)
after_arrival_for None limit byte s = with_console (with_input limit byte) s

-- the console's waiter of greatest effective priority, the earliest among equals (own)
abbrev pub first_waiter : Part → Option ThreadNumber
first_waiter s = first_of_greatest (effective_priority s.locks) s.console.waiters

-- the byte goes to the first waiter
abbrev pub after_arrival : ℕ → Part → Arrival → Part
after_arrival limit s arrival = after_arrival_for (first_waiter s) limit arrival.byte s

-- the input with tick at most this one has arrived, in order (own)
abbrev pub after_arrivals : Limits → Tick → Part → Part
after_arrivals limits tick s = fold (after_arrival limits.ring) (with_console (without_arriving tick) s) (arriving tick s.console)

-- ---- the running thread's next step

-- the thread of this number, if it is in use
abbrev pub runner_at : ThreadNumber → Option Thread → Option Runner
runner_at t None = None
runner_at t (Some thread) = Some (record { number = t; thread = thread })

-- the thread that runs, if one does
abbrev pub runner_in : Option ThreadNumber → Part → Option Runner
runner_in None s = None
runner_in (Some t) s = runner_at t (thread_at s.locks t)

-- the running thread with its number, if one runs
abbrev pub runner_of : Part → Option Runner
runner_of s = runner_in s.running s

-- the thread is marked, or has a pending request and is ENABLE and ASYNCHRONOUS; a thread that unwinds begins no unwinding (XSH 2.9.5.1; own)
abbrev pub is_to_unwind : Part → ThreadNumber → Thread → Bool
is_to_unwind s t thread =
    is_normal thread.phase
    && unwrap_or (option_map (λ c. c.is_marked || (c.is_pending && c.is_enabled && c.is_asynchronous)) (numbered s.cancellations t)) false

-- the word at the pc, 0 where none can be fetched (RISC-V 1.5; own)
abbrev pub word_fetched : List Byte → Pointer → Word
word_fetched memory pc = if pc % 4 == 0 && can_fetch memory pc then word_at memory pc else 0

-- what the running thread's next step is, by the thread, its pc and the word there
abbrev pub step_kind : Part → ThreadNumber → Thread → StepKind
step_kind s t thread =
    if is_to_unwind s t thread then UnwindingStart
    else if thread.cpu.pc == RETURN_GATE then GateStep
    else if word_fetched s.memory thread.cpu.pc == ECALL then CallStep (register thread.cpu A7)
    else InstructionStep

-- the ticks of a step (own)
abbrev pub step_cost : StepKind → Ticks
step_cost UnwindingStart = 4
step_cost GateStep = 4
step_cost (CallStep number) = cost_of number
step_cost InstructionStep = 1

-- ---- carrying it out

-- the partition in which the thread has these registers (RISC-V 2.1)
abbrev pub with_thread_cpu : ThreadNumber → Processor → Part → Part
with_thread_cpu t cpu s = with_locks (with_thread t (λ thread. record thread { cpu = cpu })) s

-- the call that the registers state
abbrev pub invocation : Limits → Tick → ThreadNumber → Processor → Invocation
invocation limits tick t cpu =
    record {
      limits = limits;
      tick = tick;
      caller = t;
      a0 = register cpu A0;
      a1 = register cpu A1;
      a2 = register cpu A2;
      a3 = register cpu A3;
      a4 = register cpu A4;
    }

-- the call of a7 (RISC-V 2.8)
abbrev pub after_call : Limits → Tick → ThreadNumber → Processor → Part → Part
after_call limits tick t cpu s = (answer_to (call_of (register cpu A7)) (invocation limits tick t cpu) s).part

-- an instruction's effect on the state; a break or a fault leaves the registers and the memory (RISC-V 1.6, 2.8; own)
abbrev pub after_effect : Limits → Tick → ThreadNumber → Pointer → Effect → Part → Part
after_effect limits tick t pc (Done cpu memory) s = with_thread_cpu t cpu (record s { memory = memory })
after_effect limits tick t pc (Call cpu) s = after_call limits tick t cpu (with_thread_cpu t cpu s)
after_effect limits tick t pc Break s = with_halt (Stopped cause.Break pc) s
after_effect limits tick t pc (Fault kind) s = with_halt (Stopped (cause.Fault kind) pc) s

-- the state after the step
abbrev pub after_step : Limits → Tick → Runner → StepKind → Part → Part
after_step limits tick r UnwindingStart s = after_unwinding_start r.number CANCELED s
after_step limits tick r GateStep s = after_gate_step r.thread.phase r.number r.thread s
after_step limits tick r (CallStep number) s = after_effect limits tick r.number r.thread.cpu.pc (effect_at r.thread.cpu s.memory) s
after_step limits tick r InstructionStep s = after_effect limits tick r.number r.thread.cpu.pc (effect_at r.thread.cpu s.memory) s

-- ---- the trace

-- the word of a step that fetches one, 0 of another
abbrev pub traced_word : StepKind → List Byte → Pointer → Word
traced_word UnwindingStart memory pc = 0
traced_word GateStep memory pc = 0
traced_word (CallStep number) memory pc = word_fetched memory pc
traced_word InstructionStep memory pc = word_fetched memory pc

-- the thread's a0 after the step, before it where the thread ended (own)
abbrev pub a0_after : Thread → Option Thread → Word
a0_after before None = register before.cpu A0
a0_after before (Some after) = if is_ended after.phase then register before.cpu A0 else register after.cpu A0

-- the step as the trace keeps it: by the thread and the memory before it, and the thread after it
abbrev pub entry_of : Tick → Runner → StepKind → List Byte → Option Thread → Entry
entry_of tick r kind memory after =
    record {
      tick = tick;
      thread = r.number;
      pc = r.thread.cpu.pc;
      word = traced_word kind memory r.thread.cpu.pc;
      a0 = a0_after r.thread after;
    }

-- ---- the decision

-- a step with its place in the trace and in the round-robin interval
abbrev pub after_whole_step : Limits → Tick → Runner → StepKind → Part → Part
after_whole_step limits tick r kind s =
    let after : Part = after_step limits tick r kind s in
    let thread : Option Thread = thread_at after.locks r.number in
    after_interval limits.interval (step_cost kind) r.number thread (record after { last = Some (entry_of tick r kind s.memory thread) })

-- the result of a turn or a decision: what it spends, and the state after it
pub record Decision : Type 0 where
  pub spent : Spent
  pub part : Part

-- no thread runs; or a step, which begins only if its whole cost fits; else the rest of the window is lost (own)
abbrev pub turn : Limits → Tick → Ticks → Option Runner → Part → Decision
turn limits tick room None s = record { spent = Idle; part = s }
turn limits tick room (Some r) s =
    let kind : StepKind = step_kind s r.number r.thread in
    if nat_lt room (step_cost kind) then record { spent = Lost; part = s } else record { spent = Step (step_cost kind); part = after_whole_step limits tick r kind s }

-- the state after a turn
abbrev pub after_turn : Limits → Tick → Ticks → Option Runner → Part → Part
after_turn limits tick room o s = (turn limits tick room o s).part

-- what a turn spends
abbrev pub spent_in_turn : Limits → Tick → Ticks → Option Runner → Part → Spent
spent_in_turn limits tick room o s = (turn limits tick room o s).spent

-- after the arrivals, the expiries and the choice of a tick
abbrev pub ready_at : Limits → Tick → Part → Part
ready_at limits tick s = after_choice (after_expiries tick (after_arrivals limits tick s))

-- the decision at an own tick with this room, the ticks to its window's end (own)
abbrev pub decision : Limits → Tick → Ticks → Part → Decision
decision limits tick room s = let ready : Part = ready_at limits tick s in turn limits tick room (runner_of ready) ready

-- the state after a decision
abbrev pub after_decision : Limits → Tick → Ticks → Part → Part
after_decision limits tick room s = (decision limits tick room s).part

-- what a decision spends
abbrev pub spent_by_decision : Limits → Tick → Ticks → Part → Spent
spent_by_decision limits tick room s = (decision limits tick room s).spent
