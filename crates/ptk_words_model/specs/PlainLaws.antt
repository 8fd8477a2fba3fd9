-- What is said of plain steps in a row.
use Rattle.std.specs.Prelude.{◌≡◌, ℕ, ◌+◌, ◌++◌}
use Rattle.ptk_words_model.specs.PlainSteps.{Core, plain_steps, plain_entries}

-- n + m steps are n steps and then m more (own)
abbrev pub StepsJoin : Type 0
StepsJoin = (n m : ℕ) (c : Core) → plain_steps (n + m) c ≡ plain_steps m (plain_steps n c)

-- the entries of n + m steps are those of n steps and then of m more (own)
abbrev pub EntriesJoin : Type 0
EntriesJoin = (tick t n m : ℕ) (c : Core) → plain_entries tick t (n + m) c ≡ plain_entries tick t n c ++ plain_entries (tick + n) t m (plain_steps n c)
