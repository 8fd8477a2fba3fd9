-- Quiet calls: they reply at once, wake nobody and change no priority, so that a quiet partition stays quiet.
use Rattle.std.specs.Prelude.{◌≡◌, ℕ, ◌+◌, ◌≤◌, List, Option, Some}
use Rattle.ptk_words.specs.Names.{Byte, ThreadNumber, Tick, Ticks, Word}
use Rattle.ptk_words.specs.declared.TheConstants.{A0, A7, ECALL}
use Rattle.ptk_words.specs.Calls.{cost_of}
use Rattle.ptk_words.specs.Processor.{Processor, register}
use Rattle.ptk_words.specs.declared.sections.Entry.{Entry}
use Rattle.ptk_words.specs.declared.sections.Limits.{Limits}
use Rattle.ptk_words.specs.declared.threads.Thread.{Thread}
use Rattle.ptk_words_model.specs.Instructions.{with_next_pc}
use Rattle.ptk_words_model.specs.PlainSteps.{core}
use Rattle.ptk_words_model.specs.declared.Spent.TheVariants.{Step}
use Rattle.ptk_words_model.specs.State.{Mutex, Part, with_locks, with_keys, with_console}
use Rattle.ptk_words_model.specs.Priority.{effective_priority}
use Rattle.ptk_words_model.specs.Schedule.{with_registers}
use Rattle.ptk_words_model.specs.Calls.{replied}
use Rattle.ptk_words_model.specs.Decision.{with_thread_cpu, word_fetched, after_call, decision}
use Rattle.ptk_words_laws.specs.Quiet.{IsQuiet, computed, with_row}

-- what a quiet call leaves of a partition beside its caller's registers: the mutexes, the console's output, and the threads' values of the keys (own)
pub record Outcome : Type 0 where
  pub mutexes : List (Option Mutex)
  pub output : List Byte
  pub values : List (List Word)

-- the mutexes, the output and the values of a partition
abbrev pub outcome_of : Part → Outcome
outcome_of s = record { mutexes = s.mutexes; output = s.console.output; values = s.keys.values }

-- the partition with these mutexes, this output and these values
abbrev pub with_outcome : Outcome → Part → Part
with_outcome o s =
    let keyed : Part = with_keys (λ keys. record keys { values = o.values }) (with_locks (λ locks. record locks { mutexes = o.mutexes }) s) in
    with_console (λ console. record console { output = o.output }) keyed

-- the call of these registers, which are the thread's, puts these values into its a0, a1 and so on, has this outcome and does nothing else, at whatever tick (own)
abbrev pub RepliesWith : Limits → ThreadNumber → Processor → List Word → Outcome → Part → Type 0
RepliesWith limits t cpu values o s = (tick : ℕ) → after_call limits tick t cpu (with_thread_cpu t cpu s) ≡ replied t values (with_outcome o (with_thread_cpu t cpu s))

-- the next step of the thread is a quiet call of these ticks, after which it has these registers, and which has this outcome, with which each priority is as before (own)
pub record IsReply (limits : Limits) (ticks t : ℕ) (thread : Thread) (after : Processor) (o : Outcome) (s : Part) : Type 0 where
  pub word : word_fetched s.memory thread.cpu.pc ≡ ECALL
  pub cost : ticks ≡ cost_of (register thread.cpu A7)
  pub values : List Word
  pub replies : RepliesWith limits t (with_next_pc thread.cpu) values o s
  pub left : after ≡ with_registers (with_next_pc thread.cpu) A0 values
  pub priorities : (u : ℕ) → effective_priority (with_outcome o s).locks u ≡ effective_priority s.locks u

-- the trace entry of such a step at the tick
abbrev pub reply_entry : Tick → ThreadNumber → Thread → Processor → Entry
reply_entry tick t thread after = record { tick = tick; thread = t; pc = thread.cpu.pc; word = ECALL; a0 = register after A0 }

-- the partition after such a step of these ticks: the thread's registers, the ticks that it used, the outcome, and the last step (XSH 2.8.4)
abbrev pub after_reply : Tick → ThreadNumber → Ticks → Thread → Processor → Outcome → Part → Part
after_reply tick t ticks thread after o s = with_row t ticks (core after s.memory) (Some (reply_entry tick t thread after)) (with_outcome o s)

-- of a quiet partition with such a step next the decision is that step, if its ticks come before the tick stop and fit the room (own)
abbrev pub ReplyIsDecided : Limits → ℕ → ℕ → ℕ → ℕ → ℕ → Thread → Processor → Outcome → Part → Type 0
ReplyIsDecided limits tick stop room t ticks thread after o s =
    IsQuiet limits tick stop t thread s → IsReply limits ticks t thread after o s → 1 ≤ ticks → tick + ticks ≤ stop → ticks ≤ room
    → decision limits tick room s ≡ record { spent = Step ticks; part = after_reply tick t ticks thread after o s }

-- such a step leaves a quiet partition quiet (own)
abbrev pub ReplyStaysQuiet : Limits → ℕ → ℕ → ℕ → ℕ → Thread → Processor → Outcome → Part → Type 0
ReplyStaysQuiet limits tick stop t ticks thread after o s =
    IsQuiet limits tick stop t thread s → IsReply limits ticks t thread after o s
    → IsQuiet limits (tick + ticks) stop t (computed ticks after thread) (after_reply tick t ticks thread after o s)
