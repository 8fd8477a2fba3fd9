-- What a partition of one configuration and one of another have in common.
use Rattle.std.specs.Prelude.{◌≡◌, ℕ, ◌<◌, ◌≤◌, length}
use Rattle.ptk_words.specs.declared.TheConstants.{LAST_TICK}
use Rattle.ptk_words_model.specs.Windows.{own_ticks}
use Rattle.ptk_config.specs.Sections.{Section}
use Rattle.ptk_config.specs.Configuration.{IsConfiguration}
use Rattle.ptk_system.specs.Laws.{SameView}
use Rattle.ptk_system.specs.Missing.{image_in}
use Rattle.ptk_system.specs.Shown.{part_report}
use Rattle.ptk_system.specs.World.{World, section_at, state_of, world_at}
use Rattle.ptk_impact.specs.Deeper.{with_trace_limit, but_trace}
use Rattle.ptk_impact.specs.declared.subject.Subject.{Subject}

-- ---- a partition of a system

-- the configuration has a section at the place of the partition (own)
abbrev pub IsPartition : Subject → Type 0
IsPartition s = s.partition < length s.config.now.sections

-- the section of a partition (own)
abbrev pub section_of : Subject → Section
section_of s = section_at s.config.now s.partition

-- the system of a partition after n ticks (own)
abbrev pub world_after : ℕ → Subject → World
world_after n s = world_at s.config.now s.files.now n

-- ---- what boot sees

-- boot sees the same of both: own ticks and window ends, numbers, image and input (own)
abbrev pub SeenAlike : Subject → Subject → Type 0
SeenAlike old new = SameView (world_after 0 old) old.partition (world_after 0 new) new.partition

-- boot sees the same of both but for the length of the trace (own)
pub record SeenAlikeButTrace (old new : Subject) : Type 0 where
  pub ends : (t : ℕ) → (own_ticks old.config.now.plan old.partition).end_at t ≡ (own_ticks new.config.now.plan new.partition).end_at t
  pub limits : (section_of old).limits ≡ with_trace_limit (section_of old).limits.trace (section_of new).limits
  pub image : image_in old.files.now (section_of old).image ≡ image_in new.files.now (section_of new).image
  pub input : (section_of old).input ≡ (section_of new).input

-- ---- runs

-- the parts of the report of two partitions are the same after n ticks, if they have one name (own)
abbrev pub ReportsAreSame : Subject → Subject → ℕ → Type 0
ReportsAreSame old new n =
    (section_of old).name ≡ (section_of new).name → part_report (world_after n old) old.partition ≡ part_report (world_after n new) new.partition

-- after n ticks both are in the same state, and so are their parts of the report (own)
abbrev pub RunsAreSame : Subject → Subject → ℕ → Type 0
RunsAreSame old new n = (state_of (world_after n old) old.partition ≡ state_of (world_after n new) new.partition) × ReportsAreSame old new n

-- after n ticks both are in states that differ in the kept entries alone, and their parts of the report are the same (own)
abbrev pub RunsAreSameButTrace : Subject → Subject → ℕ → Type 0
RunsAreSameButTrace old new n =
    (but_trace (state_of (world_after n old) old.partition) ≡ but_trace (state_of (world_after n new) new.partition)) × ReportsAreSame old new n

-- what boot sees alike is the same run, after every number of ticks
abbrev pub SameViewIsSameRun : Type 0
SameViewIsSameRun =
    (old new : Subject) → IsConfiguration old.config.now → IsConfiguration new.config.now → SeenAlike old new
    → (n : ℕ) → n ≤ LAST_TICK → RunsAreSame old new n

-- what boot sees alike but for the trace's length is the same run but for the kept entries
abbrev pub DeeperTraceIsSameRun : Type 0
DeeperTraceIsSameRun =
    (old new : Subject) → IsConfiguration old.config.now → IsConfiguration new.config.now → SeenAlikeButTrace old new
    → (n : ℕ) → n ≤ LAST_TICK → RunsAreSameButTrace old new n
