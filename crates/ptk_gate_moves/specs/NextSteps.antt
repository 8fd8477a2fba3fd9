-- What a decision reads of the running thread before its step.
use Rattle.std.specs.Prelude.{Option, Some, None, option_map, replicate, if◌then◌else◌}
use Rattle.ptk_words.specs.Names.{Word}
use Rattle.ptk_words.specs.Processor.{Processor, register}
use Rattle.ptk_words.specs.Threads.{is_ended}
use Rattle.ptk_words.specs.declared.TheConstants.{A0}
use Rattle.ptk_words.specs.declared.threads.Thread.{Thread}
use Rattle.ptk_words_model.specs.declared.Runner.{Runner}
use Rattle.ptk_words_model.specs.State.{Part}
use Rattle.ptk_words_model.specs.Decision.{runner_of, step_kind, traced_word}
use Rattle.ptk_gate_moves.specs.declared.turns.NextStep.{NextStep}

-- the next step of this thread: what it is, where, the word that the trace keeps of it, and a0 before it
abbrev pub next_step_of : Part → Runner → NextStep
next_step_of s r =
    record {
      thread = r.number;
      kind = step_kind s r.number r.thread;
      pc = r.thread.cpu.pc;
      word = traced_word (step_kind s r.number r.thread) s.memory r.thread.cpu.pc;
      a0 = register r.thread.cpu A0;
    }

-- the next step of the running thread, if one runs
abbrev pub next_step_in : Part → Option NextStep
next_step_in s = option_map (next_step_of s) (runner_of s)

-- the registers and pc of a thread, 0 in all of them where there is none (own)
abbrev pub cpu_of : Option Thread → Processor
cpu_of None = record { registers = replicate 32 0; pc = 0 }
cpu_of (Some thread) = thread.cpu

-- a0 of a thread after a step, or this word, which it was before, where the thread ended (own)
abbrev pub a0_kept : Word → Option Thread → Word
a0_kept before None = before
a0_kept before (Some after) = if is_ended after.phase then before else register after.cpu A0
