-- What the answer to a question for the impact of a new configuration says.
use Rattle.std.specs.Prelude.{◌≡◌, ◌≢◌, ℕ}
use Rattle.ptk_impact.specs.declared.impact.Impact.{Impact}
use Rattle.ptk_impact.specs.declared.impact.Impact.TheVariants.{Unchanged, UnchangedButForTrace, Changed}
use Rattle.ptk_impact.specs.declared.subject.Subject.{Subject}
use Rattle.ptk_impact.specs.Changes.{AreChanges}
use Rattle.ptk_impact.specs.Views.{RunsAreSame, RunsAreSameButTrace, SeenAlike, SeenAlikeButTrace, section_of}

-- each answer if and only if what it says is so, since no two of these hold together (own)
abbrev pub IsImpact : Subject → Subject → Impact → Type 0
IsImpact old new Unchanged = SeenAlike old new
IsImpact old new (UnchangedButForTrace trace) =
    SeenAlikeButTrace old new × ((section_of old).limits.trace ≢ (section_of new).limits.trace)
    × (trace.old ≡ (section_of old).limits.trace) × (trace.new ≡ (section_of new).limits.trace)
IsImpact old new (Changed changes) = (¬ SeenAlikeButTrace old new) × AreChanges old new changes

-- what the answer says of runs of n ticks (own)
abbrev pub RunsAreAlike : Subject → Subject → ℕ → Impact → Type 0
RunsAreAlike old new n Unchanged = RunsAreSame old new n
RunsAreAlike old new n (UnchangedButForTrace trace) = RunsAreSameButTrace old new n
RunsAreAlike old new n (Changed changes) = Unit {0}
