-- What comes next of a partition by itself.
use Rattle.std.specs.Prelude.{Option, option_map, slice_get}
use Rattle.ptk_words.specs.Names.{Tick}
use Rattle.ptk_words_model.specs.State.{Part}
use Rattle.ptk_words_model.specs.Withdrawal.{deadlines_of}
use Rattle.ptk_clock.specs.ByThread.{earlier, least_deadline}

-- the tick of the first input still to come, None where none is (own)
abbrev pub next_input : Part → Option Tick
next_input s = option_map (λ arrival. arrival.tick) (slice_get s.console.coming 0)

-- the lesser of the next deadline and the next input tick, None where neither comes (own)
abbrev pub next_event : Part → Option Tick
next_event s = earlier (least_deadline (deadlines_of s.locks)) (next_input s)
