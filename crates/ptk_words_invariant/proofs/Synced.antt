-- The whole state, and its threads, line, mutexes and condition variables.
use Rattle.std.proofs.Common.{◌≡◌, ℕ, false, List, length, refl, ◌∙◌, subst}
use Rattle.std.specs.Prelude.{Option, Some, None}
use Rattle.ptk_words.specs.declared.sections.Limits.{Limits}
use Rattle.ptk_words_model.specs.State.{Syncs, Part, with_syncs}
use Rattle.ptk_words.specs.Faults.{is_active}
use Rattle.ptk_words_sync_invariant.specs.Locks.{AreLined}
use Rattle.ptk_words_sync_invariant.specs.Conditions.{AreListed, AreSyncs}
use Rattle.ptk_words_invariant.specs.Well.{IsWell}

-- ---- the parts of a whole state

pub lined_of : (limits : Limits) (s : Part) → IsWell limits s → AreLined s.threads s.line s.running
lined_of limits s well = record { line_ready = well.line_ready; line_distinct = well.line_distinct; running_ready = well.running_ready; running_out = well.running_out }

pub waiting_of : (limits : Limits) (s : Part) → IsWell limits s → AreListed s.threads s.console.waiters
waiting_of limits s well = record {
  waiters_wait = well.waiters_wait;
  waiters_distinct = well.waiters_distinct;
  waits_listed = well.waits_listed;
  joiners_wait = well.joiners_wait;
  joins_listed = well.joins_listed;
  ended_wait = well.ended_wait;
}

-- its threads, line, mutexes and condition variables
pub syncs_of_well : (limits : Limits) (s : Part) → IsWell limits s → AreSyncs limits.interval s.running s.console.waiters s.syncs
syncs_of_well limits s well = record { lined = lined_of limits s well; waiting = waiting_of limits s well; exclusion = well.exclusion; conditions = well.conditional; used = well.used }

-- so with this thread where it runs
pub running_syncs : (limits : Limits) (t : ℕ) (s : Part) → s.running ≡ Some t → IsWell limits s → AreSyncs limits.interval (Some t) s.console.waiters s.syncs
running_syncs limits t s runs well =
    let family : Option ℕ → Type 0 = λ (running : Option ℕ). AreSyncs limits.interval running s.console.waiters s.syncs in
    subst family runs (syncs_of_well limits s well)

-- ---- the whole state from them

-- as many numbers of threads, mutexes and condition variables (own)
pub record AreSized (before after : Syncs) : Type 0 where
  pub threads : length after.threads ≡ length before.threads
  pub mutexes : length after.mutexes ≡ length before.mutexes
  pub conditions : length after.conditions ≡ length before.conditions

-- the state with these threads, this line, these mutexes and condition variables, this running thread and these waiters (own)
abbrev pub synced : Syncs → Option ℕ → List ℕ → Part → Part
synced syncs running waiters s = record s { syncs = syncs; running = running; console = record (s.console) { waiters = waiters } }

pub well_synced : (limits : Limits) (s : Part) (syncs : Syncs) (running : Option ℕ) (waiters : List ℕ) → AreSized s.syncs syncs → AreSyncs limits.interval running waiters syncs
    → (is_active s.status ≡ false → running ≡ None) → IsWell limits s → IsWell limits (synced syncs running waiters s)
well_synced limits s syncs running waiters sized are halted well = record {
  memory = well.memory;
  threads = sized.threads ∙ well.threads;
  mutexes = sized.mutexes ∙ well.mutexes;
  conditions = sized.conditions ∙ well.conditions;
  endings = well.endings;
  line_ready = are.lined.line_ready;
  line_distinct = are.lined.line_distinct;
  running_ready = are.lined.running_ready;
  running_out = are.lined.running_out;
  waiters_wait = are.waiting.waiters_wait;
  waiters_distinct = are.waiting.waiters_distinct;
  waits_listed = are.waiting.waits_listed;
  joiners_wait = are.waiting.joiners_wait;
  joins_listed = are.waiting.joins_listed;
  ended_wait = are.waiting.ended_wait;
  exclusion = are.exclusion;
  conditional = are.conditions;
  used = are.used;
  halted = halted;
  ring = well.ring;
  output = well.output;
}

-- other threads, line, mutexes and condition variables, and another running thread
pub well_with_syncs : (limits : Limits) (s : Part) (syncs : Syncs) (running : Option ℕ) → AreSized s.syncs syncs → AreSyncs limits.interval running s.console.waiters syncs
    → (is_active s.status ≡ false → running ≡ None) → IsWell limits s → IsWell limits (record s { syncs = syncs; running = running })
well_with_syncs limits s syncs running sized are halted well = well_synced limits s syncs running s.console.waiters sized are halted well

-- the same thread runs
pub well_syncs_by : (limits : Limits) (f : Syncs → Syncs) (s : Part) → AreSized s.syncs (f s.syncs) → AreSyncs limits.interval s.running s.console.waiters (f s.syncs) → IsWell limits s → IsWell limits (with_syncs f s)
well_syncs_by limits f s sized are well = well_with_syncs limits s (f s.syncs) s.running sized are well.halted well

-- no thread runs, as the caller blocks
pub well_syncs_blocked : (limits : Limits) (f : Syncs → Syncs) (s : Part) → AreSized s.syncs (f s.syncs) → AreSyncs limits.interval None s.console.waiters (f s.syncs) → IsWell limits s
    → IsWell limits (record (with_syncs f s) { running = None })
well_syncs_blocked limits f s sized are well = well_with_syncs limits s (f s.syncs) None sized are (λ e. refl) well
