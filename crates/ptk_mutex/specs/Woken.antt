-- Whose waits end with a call, as 32 bits.
use Rattle.std.specs.Prelude.{ℕ, ◌+◌, ◌*◌, Bool, false, ◌&&◌, List, [], ◌∷◌, Option, Some, None, is_some, is_none, if◌then◌else◌}
use Rattle.ptk_words.specs.declared.threads.Thread.{Thread}
use Rattle.ptk_words.specs.Parts.{part_of}
use Rattle.ptk_words_model.specs.Mutex.{wait_of}
use Rattle.ptk_roster.specs.Rosters.{Rostered}

-- a thread in use that waits for nothing (XSH 2.8.4)
abbrev pub is_idle : Option Thread → Bool
is_idle None = false
is_idle (Some thread) = is_none thread.wait

-- the thread's wait has ended, and the thread is in use (XSH 2.8.4)
abbrev pub is_woken : Option Thread → Option Thread → Bool
is_woken before after = is_some (wait_of before) && is_idle after

-- the threads that wait before and are woken after, as 32 bits: bit k - 1 is thread k (own)
abbrev pub woken_between : List (Option Thread) → List (Option Thread) → ℕ
woken_between [] after = 0
woken_between (x ∷ before) [] = 0
woken_between (x ∷ before) (y ∷ after) = woken_between before after * 2 + (if is_woken x y then 1 else 0)

-- the threads of a partition that one roster has woken after the other (own)
abbrev pub woken_at : ℕ → Rostered → Rostered → ℕ
woken_at p before after = woken_between (part_of before.table.threads p) (part_of after.table.threads p)
