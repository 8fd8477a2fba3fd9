-- What a document states, or its first fault.
use Rattle.std.specs.Prelude.{ok_or, ℕ, ◌≡◌, ◌≤◌, Bool, false, List, [], ◌∷◌, codes, length, not, Option, Some, None, Ok, Err, All}
use Rattle.std.specs.Str.{bytes_eq}
use Rattle.toml.specs.Data.{Members, get_member}
use Rattle.toml.specs.Parse.{parse_document}
use Rattle.ptk_words_model.specs.declared.fault.WindowFault.{WindowFault}
use Rattle.ptk_words_model.specs.WindowFaults.{some_pair, plan_fault}
use Rattle.ptk_words_model.specs.Windows.{WindowPlan}
use Rattle.ptk_config.specs.declared.fault.ConfigFault.TheVariants as fault
use Rattle.ptk_config.specs.Reading.{Checked, ◌>>=◌, tested, number, array, only}
use Rattle.ptk_config.specs.Sections.{Section, AreInRange, sections_in}
use Rattle.ptk_config.specs.Windows.{windows_in, stages_of}

-- the sections, by number, and the window plan (own)
pub record Configuration : Type 0 where
  pub sections : List Section
  pub plan : WindowPlan

-- the value, or the window plan's fault (own)
abbrev pub fault_or : {A : Type 0} → Option WindowFault → A → Checked A
fault_or (Some e) a = Err (fault.Window e)
fault_or None a = Ok a

-- two sections have one name (own)
unfoldable pub any_doubled : List Section → Bool
any_doubled sections = some_pair (λ s u. bytes_eq s.name u.name) sections

-- what a document's table states, in the order of the checks (own)
abbrev pub configuration : Members → Checked Configuration
configuration t = do
  frame ← number (codes "frame") 16 1000000 t
  values ← array (codes "partition") 1 8 t
  sections ← sections_in values
  values ← array (codes "window") 0 64 t
  windows ← windows_in sections values
  later ← stages_of sections (get_member (codes "plan") t)
  known ← only (codes "frame" ∷ codes "partition" ∷ codes "window" ∷ codes "plan" ∷ []) t (record { sections = sections; plan = record { frame = frame; stages = record { from = 0; windows = windows } ∷ later } })
  distinct ← tested (not (any_doubled sections)) fault.DoubledName known
  fault_or (plan_fault frame (length sections) distinct.plan.stages) distinct

-- what a text states: a text that is no TOML document is the first fault (own)
abbrev pub configuration_in : List ℕ → Checked Configuration
configuration_in text = ok_or (parse_document text) fault.Text >>= configuration

-- 1 to 8 sections within their ranges, of distinct names, and a plan without a fault, of 16 stages at most (own)
pub record IsConfiguration (config : Configuration) : Type 0 where
  pub some : 1 ≤ length config.sections
  pub few : length config.sections ≤ 8
  pub ranges : AreInRange config.sections
  pub distinct : any_doubled config.sections ≡ false
  pub frame_from : 16 ≤ config.plan.frame
  pub frame_to : config.plan.frame ≤ 1000000
  pub stages : length config.plan.stages ≤ 16
  pub numbers : All (λ stage. stage.from ≤ 68719476736) config.plan.stages
  pub plan : plan_fault config.plan.frame (length config.sections) config.plan.stages ≡ None
