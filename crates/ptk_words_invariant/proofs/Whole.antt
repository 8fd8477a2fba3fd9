-- The state whole again from its parts.
use Rattle.std.proofs.Common.{◌≡◌, ℕ, ◌<◌, false, List, length, refl, inl, inr}
use Rattle.std.specs.Prelude.{Option, None}
use Rattle.std.proofs.lemmas.Bool.{cases_eq}
use Rattle.ptk_words.specs.Pools.{pool_get}
use Rattle.ptk_words.specs.declared.sections.Limits.{Limits}
use Rattle.ptk_words.specs.declared.threads.Thread.{Thread}
use Rattle.ptk_words_model.specs.State.{Mutex, Syncs, Part}
use Rattle.ptk_words.specs.Faults.{is_active}
use Rattle.ptk_words_sync_invariant.specs.Locks.{used_of, AreMutexes}
use Rattle.ptk_words_sync_invariant.specs.Conditions.{AreListed, AreConditions, AreSyncs}
use Rattle.ptk_words_invariant.specs.Well.{IsWell}
use Rattle.ptk_words_sync_invariant.proofs.Lined.{AreLined, AreOthers}
pub use Rattle.ptk_words_invariant.proofs.Synced.{lined_of, waiting_of}
use Rattle.ptk_words_invariant.proofs.Synced.{synced, well_synced}

-- ---- scheduling alone changed

-- these threads, this line and these mutexes, with the same condition variables (own)
abbrev pub syncs_of : List (Option Thread) → List ℕ → List (Option Mutex) → Part → Syncs
syncs_of threads line mutexes s = record (s.syncs) { locks = record { threads = threads; line = line; mutexes = mutexes } }

pub well_scheduled : (limits : Limits) (s : Part) (threads : List (Option Thread)) (line : List ℕ) (mutexes : List (Option Mutex)) (running : Option ℕ) (waiters : List ℕ)
    → length threads ≡ length s.threads → length mutexes ≡ length s.mutexes → AreLined threads line running → AreListed threads waiters → AreMutexes threads mutexes → AreConditions threads mutexes s.conditions
    → ((t : ℕ) → used_of (pool_get threads t) < limits.interval) → (is_active s.status ≡ false → running ≡ None) → IsWell limits s → IsWell limits (synced (syncs_of threads line mutexes s) running waiters s)
well_scheduled limits s threads line mutexes running waiters same size lined waiting exclusion conditions used halted well =
    let are : AreSyncs limits.interval running waiters (syncs_of threads line mutexes s) = record { lined = lined; waiting = waiting; exclusion = exclusion; conditions = conditions; used = used } in
    well_synced limits s (syncs_of threads line mutexes s) running waiters (record { threads = same; mutexes = size; conditions = refl }) are halted well

-- ---- ticks used

pub used_others : (n t : ℕ) (threads after : List (Option Thread)) → AreOthers t threads after → used_of (pool_get after t) < n → ((u : ℕ) → used_of (pool_get threads u) < n) → (u : ℕ) → used_of (pool_get after u) < n
used_others n t threads after others here each u = elim (cases_eq u t) [
  | inl same ↦ (rw same here)
  | inr ne ↦ (rw (others u ne) (each u))
]
