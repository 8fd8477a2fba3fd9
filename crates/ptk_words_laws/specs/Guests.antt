-- Small guests, sections and windows, and what is read of a run.
use Rattle.std.specs.Prelude.{ℕ, ◌*◌, List, [], ◌∷◌, ◌++◌, length, map, flat_map, codes, Option, Some, option_map}
use Rattle.std.specs.Int.{w32, to_le_bytes}
use Rattle.ptk_words.specs.Names.{ThreadNumber, Tick, Ticks, Word, newline}
use Rattle.ptk_words.specs.Processor.{register}
use Rattle.ptk_words.specs.declared.sections.Limits.{Limits}
use Rattle.ptk_words_model.specs.declared.window.Window.{Window}
use Rattle.ptk_words_model.specs.Windows.{OwnTicks, Stage, own_ticks}
use Rattle.ptk_words_model.specs.State.{Part, State}
use Rattle.ptk_words_model.specs.Priority.{thread_at}
use Rattle.ptk_words_model.specs.Run.{alone}

-- words as bytes, least byte first (RISC-V 2.6)
abbrev pub bytes_of_words : List Word → List ℕ
bytes_of_words words = flat_map (to_le_bytes w32) words

-- an image of these words of text and data, with entry 0 and no zeros after them
abbrev pub image_of_words : List Word → List Word → List ℕ
image_of_words text words =
    codes "PTKI"
    ++ (bytes_of_words (1 ∷ 0 ∷ 4 * length text ∷ 4 * length words ∷ 0 ∷ [])
    ++ (bytes_of_words text ++ bytes_of_words words))

-- the numbers of the section that the rows use
abbrev pub small : Limits
small =
    record {
      memory = 4096;
      threads = 4;
      stack = 256;
      mutexes = 4;
      conditions = 4;
      keys = 4;
      interval = 100;
      ring = 16;
      output = 64;
      trace = 16;
    }

-- a window of this start and length
abbrev pub window : Tick → Ticks → ℕ → Window
window start len partition = record { start = start; length = len; partition = partition }

-- windows from the frame of this number on
abbrev pub from_frame : ℕ → List Window → Stage
from_frame number windows = record { from = number; windows = windows }

-- the own ticks of a partition whose windows change with the frames
abbrev pub own_by : Ticks → List Stage → ℕ → OwnTicks
own_by frame stages p = own_ticks (record { frame = frame; stages = stages }) p

-- the own ticks of a partition whose windows are the same in each frame
abbrev pub own_in : Ticks → List Window → ℕ → OwnTicks
own_in frame windows p = own_by frame (from_frame 0 windows ∷ []) p

-- the windows of two partitions that share a frame of 40 ticks by halves
abbrev pub halves : List Window
halves = window 0 20 0 ∷ window 20 20 1 ∷ []

-- the own ticks of a partition that has one window, which begins with the frame
abbrev pub one_window : Ticks → Ticks → OwnTicks
one_window frame len = own_in frame (window 0 len 0 ∷ []) 0

-- the own ticks of the first of two partitions that share a frame of 40 ticks by halves
abbrev pub first_half : OwnTicks
first_half = own_in 40 halves 0

-- the own ticks of the second of two partitions that share a frame of 40 ticks by halves
abbrev pub second_half : OwnTicks
second_half = own_in 40 halves 1

-- the state after n ticks of a guest without input
abbrev pub run : OwnTicks → Limits → List ℕ → Ticks → State
run ticks limits image n = alone ticks limits (Some image) [] n

-- the name of the section that the rows use
abbrev pub name : List ℕ
name = codes "p"

-- lines of text
abbrev pub lines : List (List ℕ) → List ℕ
lines texts = flat_map (λ text. text ++ newline) texts

-- the ticks of the steps that the trace keeps
abbrev pub step_ticks : State → List Tick
step_ticks s = map (λ entry. entry.tick) s.account.trace

-- the threads of the steps that the trace keeps
abbrev pub step_threads : State → List ThreadNumber
step_threads s = map (λ entry. entry.thread) s.account.trace

-- a register of a thread, None where there is no such thread
abbrev pub register_of : Part → ThreadNumber → ℕ → Option Word
register_of s t i = option_map (λ thread. register thread.cpu i) (thread_at s.locks t)
