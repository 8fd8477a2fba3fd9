-- Input that comes between two windows and while a thread waits for it.
use Rattle.std.specs.Prelude.{◌≡◌, [], ◌∷◌, codes, Some}
use Rattle.ptk_words.specs.Names.{Tick, Ticks, Byte}
use Rattle.ptk_words.specs.declared.TheConstants.{A1}
use Rattle.ptk_words.specs.declared.sections.Arrival.{Arrival}
use Rattle.ptk_words_model.specs.Text.{report_text}
use Rattle.ptk_words_model.specs.State.{State}
use Rattle.ptk_words_model.specs.Run.{alone}
use Rattle.ptk_words_laws.specs.Guests.{image_of_words, small, first_half, name, lines, step_ticks, register_of}

-- a byte that comes at the tick
abbrev pub arrival : Tick → Byte → Arrival
arrival tick byte = record { tick = tick; byte = byte }

-- a guest that jumps to itself, with a ring of 2 and three bytes of one tick in another's window, after n ticks
abbrev pub ring_at : Ticks → State
ring_at n =
    alone first_half (record small { ring = 2 }) (Some (image_of_words (0x0000006f ∷ []) [])) (arrival 30 97 ∷ arrival 30 98 ∷ arrival 30 99 ∷ []) n

-- a guest that gets a byte and exits with 0, after n ticks
abbrev pub get_at : Ticks → State
get_at n = alone first_half small (Some (image_of_words (0x00200893 ∷ 0x00000073 ∷ 0x00000893 ∷ 0x00000073 ∷ []) [])) (arrival 19 97 ∷ []) n

-- a full ring loses and counts what comes; a waiter gets its byte at the tick of its arrival (own)
pub record InputRing : Type 0 where
  pub ring : (ring_at 41).part.console.ring ≡ 97 ∷ 98 ∷ []
  pub dropped : (ring_at 41).part.console.dropped ≡ 1
  pub steps : step_ticks (get_at 41) ≡ 0 ∷ 1 ∷ 19 ∷ 40 ∷ []
  pub byte : register_of (get_at 20).part 1 A1 ≡ Some 97
  pub report : report_text name (get_at 41) ≡ lines (codes "partition p exit 0 steps 4 lost 0" ∷ codes "output 0" ∷ [] ∷ [])
