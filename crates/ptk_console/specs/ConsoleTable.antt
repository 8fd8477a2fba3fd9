-- The consoles of all partitions, and what one call does to one of them.
use Rattle.std.specs.Prelude.{◌≡◌, ℕ, List, [], length, take, drop, map, slice_get, slice_index_or, slice_set, Option, Some, None, option_map, if◌then◌else◌, false}
use Rattle.ptk_words.specs.Pools.{is_in}
use Rattle.ptk_words.specs.declared.sections.Arrival.{Arrival}
use Rattle.ptk_words.specs.declared.sections.Limits.{Limits}
use Rattle.ptk_words_model.specs.State.{Console}
use Rattle.ptk_words_model.specs.Console.{arriving, is_full, with_input, with_output}

-- ---- by partition

-- each partition's console, and the numbers of its section, which never change
pub record ConsoleTable : Type 0 where
  pub consoles : List Console
  pub limits : List Limits

-- the console of a partition that has this input and no byte yet
abbrev pub fresh_console : List Arrival → Console
fresh_console input = record { coming = input; ring = []; dropped = 0; output = []; waiters = [] }

-- the numbers past the last section
abbrev pub no_limits : Limits
no_limits = record { memory = 0; threads = 0; stack = 0; mutexes = 0; conditions = 0; keys = 0; interval = 0; ring = 0; output = 0; trace = 0 }

-- the console of a partition
abbrev pub console_at : ConsoleTable → ℕ → Console
console_at table p = slice_index_or table.consoles p (fresh_console [])

-- the numbers of a partition's section
abbrev pub console_limits_at : ConsoleTable → ℕ → Limits
console_limits_at table p = slice_index_or table.limits p no_limits

-- the table with another console of one partition
abbrev pub put_console : ℕ → Console → ConsoleTable → ConsoleTable
put_console p console table = record table { consoles = slice_set table.consoles p console }

-- ---- one console

-- the byte that comes next, where it comes at the tick or before
abbrev pub next_byte : ℕ → Console → Option ℕ
next_byte tick console = option_map (λ arrival. arrival.byte) (slice_get (arriving tick console) 0)

-- the console without that byte to come
abbrev pub without_next : ℕ → Console → Console
without_next tick console = record console { coming = drop (length (take 1 (arriving tick console))) console.coming }

-- a byte, if there is one, into the ring, or lost and counted where the ring has its limit (own)
abbrev pub with_any_input : ℕ → Option ℕ → Console → Console
with_any_input limit None console = console
with_any_input limit (Some byte) console = with_input limit byte console

-- the console after the byte that comes next has arrived
abbrev pub after_next_byte : ℕ → ℕ → Console → Console
after_next_byte limit tick console = with_any_input limit (next_byte tick console) (without_next tick console)

-- the first byte of the ring
abbrev pub first_byte : Console → Option ℕ
first_byte console = slice_get console.ring 0

-- the console without that byte
abbrev pub without_byte : Console → Console
without_byte console = record console { ring = drop 1 console.ring }

-- a byte at the end of the output, where it has fewer than its limit
abbrev pub after_put : ℕ → ℕ → Console → Console
after_put limit byte console = if is_full limit console then console else with_output byte console

-- the thread does not wait
abbrev pub IsNotWaiting : ℕ → Console → Type 0
IsNotWaiting t console = is_in t console.waiters ≡ false

-- ---- what the crate keeps of one partition

-- a console and the numbers of its section
pub record LimitedConsole : Type 0 where
  pub console : Console
  pub limits : Limits

-- the consoles and the numbers of all partitions
abbrev pub table_of : List LimitedConsole → ConsoleTable
table_of consoles = record { consoles = map (λ c. c.console) consoles; limits = map (λ c. c.limits) consoles }
