-- What a partition's table states.
use Rattle.std.specs.Prelude.{ℕ, ◌*◌, ◌%◌, ◌==◌, nat_le, nat_lt, ◌&&◌, ◌||◌, List, [], ◌∷◌, codes, length, slice_set, slice_index_or, Bool, Option, Some, None, Ok, All}
use Rattle.std.specs.List.{list_all}
use Rattle.toml.specs.Data.{Data, Items, Members, get_member}
use Rattle.ptk_words.specs.declared.sections.Limits.{Limits}
use Rattle.ptk_words.specs.declared.sections.Arrival.{Arrival}
use Rattle.ptk_config.specs.declared.fault.ConfigFault.TheVariants.{OutOfRange}
use Rattle.ptk_config.specs.Reading.{Checked, ◌>>=◌, tested, text, members, required, number, each_after, only}
use Rattle.ptk_words.specs.Ranges.{IsWithinLimits, IsInput}
use Rattle.ptk_config.specs.Inputs.{input_of}

-- what a partition is made from: its name, the name of its image or none, its numbers and its input (own)
pub record Section : Type 0 where
  pub name : List ℕ
  pub image : Option (List ℕ)
  pub limits : Limits
  pub input : List Arrival

-- the section past the last: no name, no image, numbers of 0 and no input (own)
abbrev pub no_section : Section
no_section = record {
  name = [];
  image = None;
  limits = record { memory = 0; threads = 0; stack = 0; mutexes = 0; conditions = 0; keys = 0; interval = 0; ring = 0; output = 0; trace = 0 };
  input = [];
}

-- a section with another number of entries that its trace keeps (own)
abbrev pub with_trace : ℕ → Section → Section
with_trace entries s = record s { limits = record (s.limits) { trace = entries } }

-- the sections with another number of entries that the trace of one of them keeps (own)
abbrev pub with_trace_at : ℕ → ℕ → List Section → List Section
with_trace_at entries p sections = slice_set sections p (with_trace entries (slice_index_or sections p no_section))

-- each section lies within its ranges (own)
pub record AreInRange (sections : List Section) : Type 0 where
  pub limits : All (λ s. IsWithinLimits s.limits) sections
  pub input : All (λ s. IsInput s.input) sections

-- a to z, 0 to 9, `_` and `-` (own)
abbrev pub is_name_byte : ℕ → Bool
is_name_byte b = ((nat_le 97 b && nat_le b 122) || (nat_le 48 b && nat_le b 57)) || (b == 95 || b == 45)

-- 1 to 16 of these (own)
abbrev pub is_name : List ℕ → Bool
is_name s = (nat_le 1 (length s) && nat_le (length s) 16) && list_all is_name_byte s

-- the name of a partition (own)
abbrev pub name : Members → Checked (List ℕ)
name t = required (codes "name") t >>= text >>= (λ s. tested (is_name s) OutOfRange s)

-- a text that is not empty, or none where the key is missing (own)
abbrev pub image_of : Option Data → Checked (Option (List ℕ))
image_of None = Ok None
image_of (Some d) = text d >>= (λ s. tested (nat_lt 0 (length s)) OutOfRange (Some s))

-- the number at a key, a multiple of 16 (own)
abbrev pub sixteens : List ℕ → ℕ → ℕ → Members → Checked ℕ
sixteens key low high t = number key low high t >>= (λ n. tested (n % 16 == 0) OutOfRange n)

-- the default stack of each of this many threads, which are all in the memory (own)
abbrev pub stack : ℕ → ℕ → Members → Checked ℕ
stack memory threads t = sixteens (codes "stack") 16 65536 t >>= (λ n. tested (nat_le (threads * n) memory) OutOfRange n)

-- the numbers of a section (own)
abbrev pub limits : Members → Checked Limits
limits t = do
  memory ← sixteens (codes "memory") 4096 1048576 t
  threads ← number (codes "threads") 1 32 t
  stack ← stack memory threads t
  mutexes ← number (codes "mutexes") 0 64 t
  conditions ← number (codes "conds") 0 32 t
  keys ← number (codes "keys") 0 32 t
  interval ← number (codes "interval") 1 1000000 t
  ring ← number (codes "ring") 1 256 t
  output ← number (codes "output") 0 65536 t
  trace ← number (codes "trace") 0 1024 t
  Ok (record {
    memory = memory;
    threads = threads;
    stack = stack;
    mutexes = mutexes;
    conditions = conditions;
    keys = keys;
    interval = interval;
    ring = ring;
    output = output;
    trace = trace;
  })

-- the keys of a partition's table (own)
abbrev pub section_keys : List (List ℕ)
section_keys = codes "name" ∷ codes "image" ∷ codes "memory" ∷ codes "threads" ∷ codes "stack" ∷ codes "mutexes" ∷ codes "conds" ∷ codes "keys"
    ∷ codes "interval" ∷ codes "ring" ∷ codes "output" ∷ codes "trace" ∷ codes "input" ∷ []

-- what a partition's table states, in the order of its keys (own)
abbrev pub section : Data → Checked Section
section d = do
  t ← members d
  name ← name t
  image ← image_of (get_member (codes "image") t)
  limits ← limits t
  input ← input_of (get_member (codes "input") t)
  only section_keys t (record { name = name; image = image; limits = limits; input = input })

-- the sections that the items state (own)
unfoldable pub sections_in : Items → Checked (List Section)
sections_in ds = each_after (λ _. section) [] ds
