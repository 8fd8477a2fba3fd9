-- Changes of one component, by name.
use Rattle.std.specs.Prelude.{List, [], ◌∷◌, ◌++◌, Option, Some, None}
use Rattle.ptk_words.specs.Names.{ThreadNumber, Tick, Byte}
use Rattle.ptk_words.specs.declared.faults.Status.{Status}
use Rattle.ptk_words.specs.declared.sections.Entry.{Entry}
use Rattle.ptk_words.specs.declared.threads.Thread.{Thread}
use Rattle.ptk_words.specs.Pools.{pool_set, pool_left, without}
use Rattle.ptk_words_model.specs.State.{Locks, Part, with_console}
use Rattle.ptk_gate_memory.specs.Lines.{without_one}
use Rattle.ptk_console.specs.ConsoleTable.{without_next}

-- the number is the thread's (pthread_create)
abbrev pub with_number : ThreadNumber → Thread → Locks → Locks
with_number t thread locks = record locks { threads = pool_set locks.threads t (Some thread) }

-- what f leaves of the thread of a number, which is free where f leaves nothing
abbrev pub with_left : ThreadNumber → (Thread → Option Thread) → Locks → Locks
with_left t f locks = record locks { threads = pool_left t f locks.threads }

-- the thread is the last in the line (XSH 2.8.4)
abbrev pub with_last : ThreadNumber → Locks → Locks
with_last t locks = record locks { line = locks.line ++ t ∷ [] }

-- the line without a thread (XSH 2.8.4)
abbrev pub out_of_line : ThreadNumber → Locks → Locks
out_of_line t locks = record locks { line = without t locks.line }

-- the line without this thread, if it is one (XSH 2.8.4)
abbrev pub out_of_line_if : Option ThreadNumber → Locks → Locks
out_of_line_if t locks = record locks { line = without_one t locks.line }

-- no thread runs
abbrev pub stopped : Part → Part
stopped s = record s { running = None }

-- this thread runs
abbrev pub run_by : ThreadNumber → Part → Part
run_by t s = record s { running = Some t }

-- this status
abbrev pub with_status : Status → Part → Part
with_status status s = record s { status = status }

-- the last step is this one
abbrev pub with_last_step : Entry → Part → Part
with_last_step entry s = record s { last = Some entry }

-- another memory (RISC-V 1.4)
abbrev pub with_memory : List Byte → Part → Part
with_memory memory s = record s { memory = memory }

-- the next byte that is due is no longer to come
abbrev pub with_next_taken : Tick → Part → Part
with_next_taken tick s = with_console (without_next tick) s
