-- What a window's table states, and what a plan's.
use Rattle.std.specs.Prelude.{ℕ, ◌+◌, ◌<◌, ◌≤◌, List, [], ◌∷◌, codes, length, position, fold, Option, Some, None, Ok, unwrap_or, All, AllPairs}
use Rattle.std.specs.Str.{bytes_eq}
use Rattle.toml.specs.Data.{Data, Items}
use Rattle.ptk_words_model.specs.declared.window.Window.{Window}
use Rattle.ptk_words_model.specs.Windows.{Stage}
use Rattle.ptk_config.specs.Reading.{Checked, ◌>>=◌, text, items, members, required, number, counted, array, each_after, only}
use Rattle.ptk_config.specs.Sections.{Section}

-- the place of the first section of this name, or how many sections there are (own)
abbrev pub number_of : List Section → List ℕ → ℕ
number_of sections name = unwrap_or (position (λ s. bytes_eq s.name name) sections) (length sections)

-- what a window's table states, in the order of its keys (own)
abbrev pub window : List Section → Data → Checked Window
window sections d = do
  t ← members d
  start ← number (codes "start") 0 999999 t
  length ← number (codes "length") 1 1000000 t
  name ← required (codes "partition") t >>= text
  only (codes "start" ∷ codes "length" ∷ codes "partition" ∷ []) t (record { start = start; length = length; partition = number_of sections name })

-- the windows that the items state (own)
unfoldable pub windows_in : List Section → Items → Checked (List Window)
windows_in sections ds = each_after (λ _. window sections) [] ds

-- the frame from which the last of these holds, 0 where there is none (own)
abbrev pub last_from : List Stage → ℕ
last_from done = fold (λ _ stage. stage.from) 0 done

-- what a plan's table states: the number of a frame, this one or later, and the windows from there on (own)
abbrev pub stage : List Section → ℕ → Data → Checked Stage
stage sections low d = do
  t ← members d
  from ← number (codes "from") low 68719476736 t
  values ← array (codes "window") 0 64 t
  windows ← windows_in sections values
  only (codes "from" ∷ codes "window" ∷ []) t (record { from = from; windows = windows })

-- a plan's table after others: from a later frame than theirs (own)
abbrev pub stage_in : List Section → List Stage → Data → Checked Stage
stage_in sections done d = stage sections (last_from done + 1) d

-- the later stages, none where the key is missing (own)
unfoldable pub stages_of : List Section → Option Data → Checked (List Stage)
stages_of sections None = Ok []
stages_of sections (Some d) = items d >>= counted 0 15 >>= each_after (stage_in sections) []

-- each holds from a later frame than the one before, the first from frame 1 or later, none from a frame above 2^36 (own)
pub record AreLater (stages : List Stage) : Type 0 where
  pub rising : AllPairs (λ s u. s.from < u.from) stages
  pub some : All (λ s. 1 ≤ s.from) stages
  pub to : All (λ s. s.from ≤ 68719476736) stages
