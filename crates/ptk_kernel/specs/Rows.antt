-- A quiet partition.
use Rattle.std.specs.Prelude.{ℕ}
use Rattle.ptk_words.specs.declared.threads.Thread.{Thread}
use Rattle.ptk_words_laws.specs.Quiet.{IsQuiet}
use Rattle.ptk_gate.specs.Quiet.{Quiet}
use Rattle.ptk_gate.specs.Kept.{Kept, limits_at, part_at}
pub use Rattle.ptk_gate.specs.Chosen.{IsChosen}
pub use Rattle.ptk_gate.specs.NextSteps.{IsCallNext}
pub use Rattle.ptk_gate.specs.Stretches.{HasEnded, HasGone, IsCallLast}

-- partition p is quiet from the tick up to another, with this thread running (own)
abbrev pub IsStillTo : ℕ → ℕ → ℕ → ℕ → Kept → Type 0
IsStillTo p tick stop t kept = (thread : Thread) × IsQuiet (limits_at p kept) tick stop t thread (part_at p kept)

-- partition p is quiet from the tick up to the stop of `quiet`, with its thread running (own)
abbrev pub IsStill : ℕ → ℕ → Quiet → Kept → Type 0
IsStill p tick quiet kept = IsStillTo p tick quiet.stop quiet.thread kept
