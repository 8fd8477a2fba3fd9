-- A system as its callers see it, with the state of each partition, and what each is alone.
use Rattle.std.specs.Prelude.{◌≡◌, ℕ, zero, suc, ◌<◌, ◌≤◌, List, [], ◌∷◌, ◌++◌, None, length, slice_index_or}
use Rattle.ptk_words.specs.declared.TheConstants.{LAST_TICK}
use Rattle.ptk_words_model.specs.Windows.{own_ticks}
use Rattle.ptk_words_model.specs.State.{State}
use Rattle.ptk_words_model.specs.Run.{alone, empty_part}
use Rattle.ptk_console.specs.ConsoleTable.{no_limits}
use Rattle.ptk_system_machine.specs.Kept.{limits_at}
use Rattle.ptk_config.specs.Sections.{Section}
pub use Rattle.ptk_config.specs.Sections.{no_section}
use Rattle.ptk_config.specs.Configuration.{Configuration, IsConfiguration}
use Rattle.ptk_image.specs.NamedFiles.{NamedFile}
use Rattle.ptk_system_machine.specs.Accounts.{first_account}
use Rattle.ptk_system_machine.specs.Whole.{Whole, state_at}
use Rattle.ptk_system.specs.Missing.{image_in}

-- ---- what a partition is alone

-- the section of a partition
abbrev pub section_at : Configuration → ℕ → Section
section_at config p = slice_index_or config.sections p no_section

-- what a partition is after n ticks alone: of its own ticks, its section's numbers, its image and its input
abbrev pub alone_in : Configuration → List NamedFile → ℕ → ℕ → State
alone_in config files p n =
    alone (own_ticks config.plan p) (section_at config p).limits (image_in files (section_at config p).image) (section_at config p).input n

-- the states of the first n partitions, in their order
abbrev pub states_to : (ℕ → State) → ℕ → List State
states_to state zero = []
states_to state (suc n) = states_to state n ++ state n ∷ []

-- what each partition is after n ticks alone
abbrev pub alone_states : Configuration → List NamedFile → ℕ → List State
alone_states config files n = states_to (λ p. alone_in config files p n) (length config.sections)

-- ---- what a system is

-- the configuration and the files of a boot, the tick reached, and the state that each partition is in
pub record World : Type 0 where
  pub config : Configuration
  pub files : List NamedFile
  pub tick : ℕ
  pub states : List State

-- the state past the last partition's
abbrev pub no_state : State
no_state = record { part = empty_part no_limits []; account = first_account None }

-- the state that a partition is in
abbrev pub state_of : World → ℕ → State
state_of world p = slice_index_or world.states p no_state

-- the system of a configuration and files after n ticks, if each partition is what it is alone
abbrev pub world_at : Configuration → List NamedFile → ℕ → World
world_at config files n = record { config = config; files = files; tick = n; states = alone_states config files n }

-- the system at another tick, if each partition is what it is alone
abbrev pub at_tick : ℕ → World → World
at_tick n world = world_at world.config world.files n

-- the state without the tick of its next decision
abbrev pub but_next : State → State
but_next s = record s { account = record (s.account) { next = None } }

-- the states that the tables and the accounts keep of the partitions, in their order
abbrev pub states_in : Whole → List State
states_in whole = states_to (λ p. state_at p whole) (length whole.accounts)

-- the system that these tables and accounts are, at this tick
abbrev pub world_of : Configuration → List NamedFile → Whole → ℕ → World
world_of config files whole tick = record { config = config; files = files; tick = tick; states = states_in whole }

-- each partition's state is what it is alone: in the tables with the accounts, and as the system has it
pub record IsRun (config : Configuration) (files : List NamedFile) (whole : Whole) (tick : ℕ) : Type 0 where
  pub configured : IsConfiguration config
  pub parts : length whole.accounts ≡ length config.sections
  pub sections : length whole.kept.limits ≡ length config.sections
  pub early : tick ≤ LAST_TICK
  pub limits : (p : ℕ) → p < length config.sections → limits_at p whole.kept ≡ (section_at config p).limits
  pub each : (p : ℕ) → p < length config.sections → state_at p whole ≡ alone_in config files p tick
  pub states : states_in whole ≡ alone_states config files tick
