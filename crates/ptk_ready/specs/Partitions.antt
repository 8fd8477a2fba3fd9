-- The lines of all partitions, read from what is kept for each and from the slot table's queues (XSH 2.8.4).
use Rattle.std.specs.Prelude.{◌≡◌, ℕ, pos, ◌<◌, List, [], ◌∷◌, length, slice_index_or}
use Rattle.ptk_words.specs.Parts.{part_of}
use Rattle.ptk_threads.specs.Table.{ThreadTable}
use Rattle.ptk_ready.specs.declared.entries.LinkedEntries.{LinkedEntries}
use Rattle.ptk_ready.specs.Lines.{line_of, IsFiled}

-- what is kept for a partition, nothing past the last
abbrev pub entries_at : {limit : ℕ} → List (LinkedEntries limit) → ℕ → LinkedEntries limit
entries_at line p = slice_index_or line p (record { stamps = []; bitmap = 0; range = record { first = pos 0; last = pos 0 } })

-- by partition: the threads of its queues of ready threads in the order of their stamps
abbrev pub lines_by : {limit : ℕ} → List (LinkedEntries limit) → List (List (List ℕ)) → List (List ℕ)
lines_by [] queues = []
lines_by (entries ∷ line) [] = line_of [] entries.stamps ∷ lines_by line []
lines_by (entries ∷ line) (lists ∷ queues) = line_of lists entries.stamps ∷ lines_by line queues

-- something is kept for each partition of the slot table, and each one's queues of ready threads are its line's threads of their priority
pub record AreFiled (limit : ℕ) (line : List (LinkedEntries limit)) (table : ThreadTable) : Type 0 where
  pub parts : length line ≡ length table.queues
  pub each : (p : ℕ) → p < length line → IsFiled limit (entries_at line p).range (part_of table.queues p) (part_of table.stored p) (entries_at line p).stamps (entries_at line p).bitmap
