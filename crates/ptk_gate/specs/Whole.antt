-- What holds of the tables between calls.
use Rattle.std.specs.Prelude.{◌≡◌, ◌≤◌, length, All}
use Rattle.ptk_words.specs.Ranges.{IsWithinLimits}
use Rattle.ptk_words.specs.declared.sections.Limits.{Limits}
use Rattle.ptk_words_model.specs.State.{Part}
use Rattle.ptk_words_model.specs.Run.{empty_part}
use Rattle.ptk_gate_pools.specs.Kept.{Kept, AreWell}

-- there is a partition, every partition's part is whole, and the numbers of each section are within their ranges
pub record AreWhole (kept : Kept) : Type 0 where
  pub some : 1 ≤ length kept.limits
  pub wells : AreWell kept
  pub ranges : All IsWithinLimits kept.limits

-- the part of a partition that has no image yet (own)
abbrev pub IsBlank : Limits → Part → Type 0
IsBlank limits s = s ≡ empty_part limits s.console.coming
