-- One byte that arrives.
use Rattle.std.specs.Prelude.{ℕ, Option, Some, None}
use Rattle.ptk_words.specs.Names.{Byte, Tick}
use Rattle.ptk_words_model.specs.State.{Part}
use Rattle.ptk_words_model.specs.Decision.{after_arrival_for, first_waiter}
use Rattle.ptk_console.specs.ConsoleTable.{next_byte}
use Rattle.ptk_gate_moves.specs.Moves.{with_next_taken}

-- the byte goes to the waiter of greatest effective priority, or into a ring of this limit, or is lost (own)
abbrev pub after_byte : ℕ → Byte → Part → Part
after_byte limit byte s = after_arrival_for (first_waiter s) limit byte s

-- this byte, if one is due, is taken from the input to come and brought to its place
abbrev pub after_due_byte : Option Byte → ℕ → Tick → Part → Part
after_due_byte None limit tick s = s
after_due_byte (Some byte) limit tick s = after_byte limit byte (with_next_taken tick s)

-- the next byte to come, if it is due at the tick, is brought to its place
abbrev pub after_next_arrival : ℕ → Tick → Part → Part
after_next_arrival limit tick s = after_due_byte (next_byte tick s.console) limit tick s
