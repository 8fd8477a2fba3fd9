-- Calls 3 and 4: the clocks (clock_gettime, clock_nanosleep).
use Rattle.std.specs.Prelude.{Bool, nat_lt, nat_le}
use Rattle.ptk_words.specs.Names.{Word}
use Rattle.ptk_words.specs.Words.{with_bytes}
use Rattle.ptk_words.specs.declared.faults.Errno.TheVariants.{EINVAL}
use Rattle.ptk_words.specs.declared.threads.Wait.TheVariants.{SleepWait}
use Rattle.ptk_words_model.specs.Time.{timespec_at, time_bytes, is_timespec, deadline_of}
use Rattle.ptk_words_model.specs.Steps.{Row, ◌passed_to◌ as ◌>>=◌, ◌>>◌, registers, state, refuse◌when◌, refuse◌unless◌, when◌finish◌, cancellation_point, readable, change, succeed, block_in}

-- neither CLOCK_REALTIME, 0, nor CLOCK_MONOTONIC, 1 (clock_gettime, EINVAL; own)
abbrev pub is_no_clock : Word → Bool
is_no_clock word = nat_lt 1 word

-- the tick as a timespec, stored at the pointer; both clocks read it (clock_gettime; own)
abbrev pub clock_gettime : Row
clock_gettime = do
  i ← registers
  readable i.a1 12
  refuse EINVAL when is_no_clock i.a0
  change (λ s. record s { memory = with_bytes s.memory i.a1 (time_bytes i.tick) })
  succeed

-- a sleep until a time, TIMER_ABSTIME (clock_nanosleep)
abbrev pub clock_nanosleep : Row
clock_nanosleep = do
  i ← registers
  s ← state
  readable i.a1 12
  cancellation_point
  let time = timespec_at s.memory i.a1
  refuse EINVAL when is_no_clock i.a0
  refuse EINVAL unless is_timespec time
  when nat_le (deadline_of time) i.tick finish succeed
  block_in (SleepWait (deadline_of time))
