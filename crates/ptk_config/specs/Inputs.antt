-- What the input of a section states.
use Rattle.std.specs.Prelude.{ℕ, ◌-◌, List, [], ◌∷◌, codes, length, map, Option, Some, None, Ok, sum_by, fold, flat_map}
use Rattle.ptk_words.specs.declared.TheConstants.{LAST_TICK}
use Rattle.toml.specs.Data.{Data, Items}
use Rattle.ptk_words.specs.declared.sections.Arrival.{Arrival}
use Rattle.ptk_config.specs.Reading.{Checked, ◌>>=◌, integer, items, members, number, array, each_after, only}

-- the bytes that come in at a tick (own)
pub record Input : Type 0 where
  pub tick : ℕ
  pub bytes : List ℕ

-- the tick of the last input, 0 where there is none (own)
abbrev pub last_tick : List Input → ℕ
last_tick is = fold (λ _ i. i.tick) 0 is

-- how many bytes the inputs have in all (own)
abbrev pub byte_count : List Input → ℕ
byte_count is = sum_by (λ i. length i.bytes) is

-- the bytes of an array (own)
abbrev pub bytes_in : Items → Checked (List ℕ)
bytes_in ds = each_after (λ _. integer 0 255) [] ds

-- an input at this tick or later, of at most this many bytes (own)
abbrev pub input : ℕ → ℕ → Data → Checked Input
input low room d = do
  t ← members d
  tick ← number (codes "at") low LAST_TICK t
  values ← array (codes "bytes") 0 room t
  bytes ← bytes_in values
  only (codes "at" ∷ codes "bytes" ∷ []) t (record { tick = tick; bytes = bytes })

-- an input after others: not before them, and at most 65536 bytes with theirs (own)
abbrev pub input_in : List Input → Data → Checked Input
input_in done d = input (last_tick done) (65536 - byte_count done) d

-- the inputs of a section, none where the key is missing (own)
abbrev pub inputs_of : Option Data → Checked (List Input)
inputs_of None = Ok []
inputs_of (Some d) = items d >>= each_after input_in []

-- the bytes of an input, in the order written, each with its tick (own)
abbrev pub arrivals_at : Input → List Arrival
arrivals_at i = map (λ b. record { tick = i.tick; byte = b }) i.bytes

-- the bytes of all inputs, in the order written (own)
abbrev pub arrivals_of : List Input → List Arrival
arrivals_of is = flat_map arrivals_at is

-- the bytes that a section's inputs state (own)
abbrev pub input_of : Option Data → Checked (List Arrival)
input_of value = inputs_of value >>= (λ is. Ok (arrivals_of is))
