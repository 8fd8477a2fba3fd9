-- The step of a call, in its parts.
use Rattle.std.specs.Prelude.{◌+◌, Some}
use Rattle.ptk_words.specs.Names.{Pointer, ThreadNumber, Ticks}
use Rattle.ptk_words.specs.Words.{word_of}
use Rattle.ptk_words.specs.declared.TheConstants.{ECALL}
use Rattle.ptk_words.specs.declared.sections.Entry.{Entry}
use Rattle.ptk_words.specs.declared.sections.Limits.{Limits}
use Rattle.ptk_threads.specs.Registers.{with_pc}
use Rattle.ptk_words_model.specs.declared.Invocation.{Invocation}
use Rattle.ptk_words_model.specs.State.{Part, with_locks}
use Rattle.ptk_words_model.specs.Priority.{thread_at}
use Rattle.ptk_words_model.specs.Schedule.{after_interval, with_thread}
use Rattle.ptk_gate_steps.specs.NextSteps.{a0_kept}

-- the thread has gone on past the ECALL at this pc (RISC-V 2.8)
abbrev pub past_ecall : ThreadNumber → Pointer → Part → Part
past_ecall t pc s = with_locks (with_thread t (with_pc (word_of (pc + 4)))) s

-- the entry of the ECALL at this pc that states the call, with a0 before it (RISC-V 2.8; own)
abbrev pub ecall_entry : Pointer → Invocation → Entry
ecall_entry pc i = record { tick = i.tick; thread = i.caller; pc = pc; word = ECALL; a0 = i.a0 }

-- the last step is this one, with a0 as its thread has it now, or as it is here where that ended, and its ticks count in the thread's round-robin interval (XSH 2.8.4, SCHED_RR; own)
abbrev pub finished : Limits → Entry → Ticks → Part → Part
finished limits entry cost s =
    after_interval limits.interval cost entry.thread (thread_at s.locks entry.thread) (record s { last = Some (record entry { a0 = a0_kept entry.a0 (thread_at s.locks entry.thread) }) })
