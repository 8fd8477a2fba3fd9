-- A partition alone: from its own ticks, its section's numbers, its image and its input, its state after every number of ticks (own).
use Rattle.std.specs.Prelude.{ℕ, zero, suc, ◌+◌, ◌-◌, Bool, true, false, List, [], ◌++◌, length, drop, replicate, not, ◌==◌, nat_lt, if◌then◌else◌, Option, Some, None, option_to_list, Result, Ok, Err, ◌*◌}
use Rattle.ptk_words.specs.Names.{Byte, Tick, Ticks}
use Rattle.ptk_words.specs.Faults.{is_active}
use Rattle.ptk_words.specs.Image.{ImageParts, image_of}
use Rattle.ptk_words.specs.declared.faults.ImageFault.{ImageFault}
use Rattle.ptk_words.specs.declared.faults.ImageFault.TheVariants.{Unfit}
use Rattle.ptk_words.specs.declared.faults.Status.{Status}
use Rattle.ptk_words.specs.declared.faults.Status.TheVariants.{Active, Refused}
use Rattle.ptk_words.specs.declared.sections.Arrival.{Arrival}
use Rattle.ptk_words.specs.declared.sections.Limits.{Limits}
use Rattle.ptk_words.specs.declared.threads.Thread.{Thread}
use Rattle.ptk_words.specs.declared.threads.Policy.TheVariants.{Fifo}
use Rattle.ptk_words_model.specs.Windows.{OwnTicks}
use Rattle.ptk_words_model.specs.declared.Spent.{Spent}
use Rattle.ptk_words_model.specs.declared.Spent.TheVariants.{Step, Idle, Lost}
use Rattle.ptk_words_model.specs.State.{Part, Account, State}
use Rattle.ptk_words_model.specs.Keys.{no_values, no_rounds}
use Rattle.ptk_words_model.specs.ThreadCreation.{start_cpu, new_thread, new_cancellation, default_stack_top, with_new_thread}
use Rattle.ptk_words_model.specs.Decision.{Decision, decision}

-- ---- the start

-- no thread, every pool free, memory all 0, all input still to come (own)
abbrev pub empty_part : Limits → List Arrival → Part
empty_part limits input =
    record {
      memory = replicate limits.memory 0;
      syncs = record {
        locks = record { threads = replicate limits.threads None; line = []; mutexes = replicate limits.mutexes None };
        conditions = replicate limits.conditions None;
      };
      running = None;
      cancellations = replicate limits.threads new_cancellation;
      cleanups = replicate limits.threads [];
      keys = record {
        destructors = replicate limits.keys None;
        values = replicate limits.threads (no_values limits.keys);
        rounds = replicate limits.threads no_rounds;
      };
      console = record { coming = input; ring = []; dropped = 0; output = []; waiters = [] };
      status = Active;
      last = None;
    }

-- main: SCHED_FIFO, priority 16, from the entry of the image (own)
abbrev pub main_thread : Limits → ImageParts → Thread
main_thread limits image =
    let thread : Thread = new_thread (start_cpu image.entry 0 (default_stack_top limits 1)) Fifo 16 in
    record thread { is_main = true }

-- text, data and zeros lie below all stacks; the sums are whole numbers and never wrap (own)
abbrev pub fits : Limits → ImageParts → Bool
fits limits image =
    not (nat_lt (limits.memory - limits.threads * limits.stack) (length image.text + length image.«data» + image.bss))

-- text from address 0 on, then data, the rest 0 (own)
abbrev pub memory_of : Limits → ImageParts → List Byte
memory_of limits image =
    image.text ++ (image.«data» ++ replicate (limits.memory - (length image.text + length image.«data»)) 0)

-- main with its image in memory; an image that has a fault or does not fit halts the partition (own)
abbrev pub with_image : Limits → Result ImageParts ImageFault → Part → Part
with_image limits (Err fault) s = record s { status = Refused fault }
with_image limits (Ok image) s =
    if fits limits image
    then with_new_thread limits 1 (main_thread limits image) (record s { memory = memory_of limits image })
    else record s { status = Refused Unfit }

-- the start by the bytes of an image, or without one, when no thread starts (own)
abbrev pub with_image_bytes : Limits → Option (List Byte) → Part → Part
with_image_bytes limits None s = s
with_image_bytes limits (Some bytes) s = with_image limits (image_of bytes) s

-- the next decision is at the first own tick not before this one; a halted partition has none (own)
abbrev pub next_from : OwnTicks → Status → Tick → Option Tick
next_from ticks status tick = if is_active status then ticks.next_of tick else None

-- what the partition starts with
abbrev pub start_part : Limits → Option (List Byte) → List Arrival → Part
start_part limits image input = with_image_bytes limits image (empty_part limits input)

-- the state before the first decision, which is at the first own tick (own)
abbrev pub start : OwnTicks → Limits → Option (List Byte) → List Arrival → State
start ticks limits image input =
    let part : Part = start_part limits image input in
    record { part = part; account = record { next = next_from ticks part.status 0; steps = 0; lost = 0; trace = [] } }

-- ---- ticks

-- the last of the list, at most this many
abbrev pub last_of : {A : Type 0} → ℕ → List A → List A
last_of count xs = drop (length xs - count) xs

-- the account after a decision at a tick with this room, which left the partition so: the lost ticks are counted at once, a step is counted and goes into the trace (own)
abbrev pub accounted : OwnTicks → Limits → Tick → Ticks → Part → Spent → Account → Account
accounted ticks limits tick room part Idle account = record account { next = next_from ticks part.status (tick + 1) }
accounted ticks limits tick room part Lost account =
    record account { next = next_from ticks part.status (tick + room); lost = account.lost + room }
accounted ticks limits tick room part (Step cost) account =
    record account {
      next = next_from ticks part.status (tick + cost);
      steps = account.steps + 1;
      trace = last_of limits.trace (account.trace ++ option_to_list part.last);
    }

-- the state after the decision at a tick with this room
abbrev pub decided : OwnTicks → Limits → Tick → Ticks → State → State
decided ticks limits tick room s =
    let d : Decision = decision limits tick room s.part in
    record { part = d.part; account = accounted ticks limits tick room d.part d.spent s.account }

-- the next decision is at the tick
abbrev pub is_at : Tick → Option Tick → Bool
is_at tick None = false
is_at tick (Some n) = n == tick

-- a decision takes place at a tick of its own, where it is the next one's (own)
abbrev pub after_tick_until : Option Tick → OwnTicks → Limits → Tick → State → State
after_tick_until None ticks limits tick s = s
after_tick_until (Some end) ticks limits tick s = if is_at tick s.account.next then decided ticks limits tick (end - tick) s else s

-- the state after a tick
abbrev pub after_tick : OwnTicks → Limits → Tick → State → State
after_tick ticks limits tick s = after_tick_until (ticks.end_at tick) ticks limits tick s

-- the state after n ticks: after all decisions at own ticks below n (own)
abbrev pub alone : OwnTicks → Limits → Option (List Byte) → List Arrival → ℕ → State
alone ticks limits image input zero = start ticks limits image input
alone ticks limits image input (suc n) = after_tick ticks limits n (alone ticks limits image input n)
