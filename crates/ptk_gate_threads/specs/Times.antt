-- What the calls on clocks make of a tick and of a deadline.
use Rattle.std.specs.Prelude.{ℕ, nat_le}
use Rattle.std.specs.Int.{w64, to_le_bytes}
use Rattle.ptk_words.specs.Names.{Pointer, Tick}
use Rattle.ptk_words.specs.Words.{with_bytes}
use Rattle.ptk_words.specs.declared.threads.Wait.TheVariants.{SleepWait}
use Rattle.ptk_words_model.specs.State.{Part}
use Rattle.ptk_words_model.specs.Time.{time_bytes}
use Rattle.ptk_words_model.specs.Steps.{Row, ◌passed_to◌ as ◌>>=◌, ◌>>◌, registers, when◌finish◌, succeed, block_in}

-- the seconds stored at the pointer, low word first (clock_gettime; own)
abbrev pub with_seconds : Pointer → ℕ → Part → Part
with_seconds pointer seconds s = record s { memory = with_bytes s.memory pointer (to_le_bytes w64 seconds) }

-- the tick stored at the pointer, as a timespec (clock_gettime)
abbrev pub with_time : Pointer → Tick → Part → Part
with_time pointer tick s = record s { memory = with_bytes s.memory pointer (time_bytes tick) }

-- a sleep until the tick, at an end where it has come (clock_nanosleep)
abbrev pub slept : Tick → Row
slept deadline = do
  i ← registers
  when nat_le deadline i.tick finish succeed
  block_in (SleepWait deadline)
