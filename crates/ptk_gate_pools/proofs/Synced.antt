-- What a whole state says of mutexes, of condition variables and of the running thread, as their calls ask for it.
use Rattle.std.proofs.Common.{arith, ◌≡◌, ℕ, ◌<◌, true, false, List, length, refl, subst}
use Rattle.std.specs.Prelude.{IsSome, Option, Some, None}
use Rattle.std.proofs.lemmas.Bool.{false≢true}
use Rattle.ptk_words.specs.declared.sections.Limits.{Limits}
use Rattle.ptk_words.specs.declared.threads.Thread.{Thread}
use Rattle.ptk_words_model.specs.State.{Mutex, Condition, Part, Syncs}
use Rattle.ptk_words_model.specs.Priority.{thread_at, awaited}
use Rattle.ptk_words_model.specs.Mutex.{wait_of}
use Rattle.ptk_words_sync_invariant.specs.Locks.{is_ready}
use Rattle.ptk_words.specs.Threads.{condition_of_wait}
use Rattle.ptk_words_sync_invariant.proofs.Lined.{ready_waits, not_ready_out}
use Rattle.ptk_words_sync_invariant.proofs.Threads.{awaits_not_ready}
use Rattle.ptk_words_sync_invariant.proofs.Wakings.{waits_not_ready}
use Rattle.ptk_words_sync_invariant.proofs.Conditions.{IsConditionWait, condition_wait}
use Rattle.ptk_words_invariant.specs.Well.{IsWell}
use Rattle.ptk_words_invariant.proofs.Synced.{lined_of}
use Rattle.ptk_threads.specs.Table.{ThreadTable}
use Rattle.ptk_cond.specs.LockTables.{IsWaiter, AreLocked}
use Rattle.ptk_cond.specs.Timeouts.{IsBlocked}
use Rattle.ptk_cond.specs.Tables.{syncs_by, AreSyncedBy, IsOnCondition, AreWaiting, IsAwake}
use Rattle.ptk_gate_pools.specs.Kept.{AreStored}
use Rattle.ptk_gate_pools.proofs.Locking.{ready_is}

-- a waiter waits, so it is not ready, so it is not in the line
waiter_is : (limits : Limits) (m t : ℕ) (s : Part) → IsWell limits s → awaited (thread_at s.locks t) ≡ Some m → IsWaiter s.locks m t
waiter_is limits m t s well waits = record { waits = waits; out = not_ready_out s.threads s.line s.running t (lined_of limits s well) (awaits_not_ready m (thread_at s.locks t) waits); inside = well.exclusion.waits_listed m t waits }

-- the mutexes are used as they should be
pub locked_of : (limits : Limits) (s : Part) → IsWell limits s → AreLocked s.locks
locked_of limits s well = record { waiters = λ m t e. waiter_is limits m t s well (well.exclusion.waiters_wait m t e); counts = well.exclusion.counts }

-- so with a waiter of a condition variable, whose re-lock has room
on_condition : (limits : Limits) (c t : ℕ) (s : Part) → IsWell limits s → condition_of_wait (wait_of (thread_at s.locks t)) ≡ Some c → IsOnCondition s.locks c t
on_condition limits c t s well on =
    let is : IsConditionWait c (wait_of (thread_at s.locks t)) = condition_wait c (wait_of (thread_at s.locks t)) on in
    let idle : is_ready (thread_at s.locks t) ≡ false = waits_not_ready _ (thread_at s.locks t) is.waits in
    record { waits = on; out = not_ready_out s.threads s.line s.running t (lined_of limits s well) idle; room = well.conditional.room t }

-- every waiter of a condition variable waits on it
pub waiting_of : (limits : Limits) (s : Part) → IsWell limits s → AreWaiting s.syncs
waiting_of limits s well = record { waiters = λ c t e. on_condition limits c t s well (well.conditional.waiters_wait c t e) }

-- what the condition calls need of the tables of a whole state
pub synced_is : (p n : ℕ) (limits : Limits) (s : Part) (table : ThreadTable) (lines : List (List ℕ)) (mutexes : List (List (Option Mutex))) (conditions : List (List (Option Condition))) → p < n → length table.threads ≡ n → length table.stored ≡ n
    → length lines ≡ n → length mutexes ≡ n → length conditions ≡ n → AreStored table.stored table.threads mutexes → s.syncs ≡ syncs_by p table lines mutexes conditions → IsWell limits s → AreSyncedBy p table lines mutexes conditions
synced_is p n limits s table lines mutexes conditions lt threads stored line pool others are same well = record {
  ready = ready_is p n table lines mutexes lt threads stored line pool are (subst (λ (syncs : Syncs). AreLocked syncs.locks) same (locked_of limits s well));
  of_conditions = omega arith;
  waiting = subst AreWaiting same (waiting_of limits s well);
}

pub ready_used : (o : Option Thread) → is_ready o ≡ true → IsSome o
ready_used None ready = absurd (false≢true ready)
ready_used (Some thread) ready = refl

-- the running thread waits for nothing
pub awake_of : (limits : Limits) (s : Part) (t : ℕ) → IsWell limits s → s.running ≡ Some t → IsAwake s.locks t
awake_of limits s t well runs = record {
  used = ready_used (thread_at s.locks t) (well.running_ready t runs);
  out = well.running_out t runs;
  awake = ready_waits (thread_at s.locks t) (well.running_ready t runs);
}

-- a thread that waits is not in the line, and is among the waiters of what it waits for
pub blocked_of : (limits : Limits) (s : Part) (t : ℕ) → IsWell limits s → IsBlocked s.syncs t
blocked_of limits s t well = record {
  out = λ wait waits. not_ready_out s.threads s.line s.running t (lined_of limits s well) (waits_not_ready wait (thread_at s.locks t) waits);
  queued = λ m waits. well.exclusion.waits_listed m t waits;
  listed = λ c waits. well.conditional.waits_listed c t waits;
}
