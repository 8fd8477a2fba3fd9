-- The thread whose deadline comes: a waiter of a mutex, or a sleeper, whose waking changes no effective priority.
use Rattle.std.proofs.Common.{◌≡◌, ℕ, [], ◌∷◌, ◌++◌, refl, sym, ◌∙◌, ap}
use Rattle.std.specs.Prelude.{Bool, true, false, Option, Some, None}
use Rattle.std.proofs.Math.ListN.{set}
use Rattle.ptk_words.specs.Pools.{is_in}
use Rattle.ptk_words.specs.declared.threads.Wait.{Wait}
use Rattle.ptk_words.specs.declared.threads.Wait.TheVariants.{SleepWait, MutexWait}
use Rattle.ptk_words.specs.Parts.{part_of}
use Rattle.ptk_words.proofs.Cuts.{set_part-same}
use Rattle.ptk_words_model.specs.State.{Locks, Syncs}
use Rattle.ptk_words_model.specs.Priority.{thread_at, awaited}
use Rattle.ptk_words.specs.Threads.{mutex_of_wait, condition_of_wait}
use Rattle.ptk_words_model.specs.Schedule.{woken_with, after_wake}
use Rattle.ptk_words_model.specs.Mutex.{mutex_at, wait_of, waiters_of}
use Rattle.ptk_words_model.specs.Condition.{condition_waiters}
use Rattle.ptk_words_sync_invariant.specs.Conditions.{IsNoWaiter}
use Rattle.ptk_words_sync_invariant.proofs.Threads.{none_awaits, awaits_by}
use Rattle.ptk_threads.specs.Table.{thread_in, with_changed}
use Rattle.ptk_cond.specs.Rosters.{Rostered}
use Rattle.ptk_cond.specs.LockTables.{put_locks, with_threads, AreLocked, IsWaiter}
use Rattle.ptk_cond.specs.Sound.{IsSound}
use Rattle.ptk_cond.proofs.Apart.{apart_woken, other_waiter, waiting_kept}
use Rattle.ptk_cond.proofs.Locked.{locked_wake}
use Rattle.ptk_cond.proofs.Moved.{stays}
use Rattle.ptk_cond.proofs.Raised.{wake_stored}
use Rattle.ptk_cond.proofs.Sound.{of_part, as_syncs, AreSyncedAt, IsLocksMove, sound_locks, synced_locks}
use Rattle.ptk_cond.proofs.LockSteps.{put_ready}
use Rattle.ptk_cond.specs.Tables.{put_syncs, AreWaiting}
use Rattle.ptk_cond.proofs.Steps.{put_none}
use Rattle.ptk_cond.specs.Timeouts.{after_sync_timeout, IsBlocked}

-- a thread in a wait for a mutex is one of its waiters
pub waiter_by : (t m : ℕ) (deadline : Option ℕ) (syncs : Syncs) → IsBlocked syncs t → wait_of (thread_at syncs.locks t) ≡ Some (MutexWait m deadline) → IsWaiter syncs.locks m t
waiter_by t m deadline syncs blocked is =
    let waits : awaited (thread_at syncs.locks t) ≡ Some m = awaits_by (thread_at syncs.locks t) ∙ ap mutex_of_wait is in
    record { waits = waits; out = blocked.out (MutexWait m deadline) is; inside = blocked.queued m waits }

-- ---- a sleeper

asleep_none : (t deadline : ℕ) (locks : Locks) → wait_of (thread_at locks t) ≡ Some (SleepWait deadline) → awaited (thread_at locks t) ≡ None
asleep_none t deadline locks is = awaits_by (thread_at locks t) ∙ ap mutex_of_wait is

-- is among no waiters
asleep_of_mutex : (t m deadline : ℕ) (locks : Locks) → wait_of (thread_at locks t) ≡ Some (SleepWait deadline) → AreLocked locks → (b : Bool) → is_in t (waiters_of (mutex_at locks m)) ≡ b → is_in t (waiters_of (mutex_at locks m)) ≡ false
asleep_of_mutex t m deadline locks is locked true there = absurd (none_awaits m (thread_at locks t) (asleep_none t deadline locks is) (locked.waiters m t there).waits)
asleep_of_mutex t m deadline locks is locked false there = there

asleep_of_condition : (t c deadline : ℕ) (syncs : Syncs) → wait_of (thread_at syncs.locks t) ≡ Some (SleepWait deadline) → AreWaiting syncs → (b : Bool) → is_in t (condition_waiters syncs c) ≡ b → is_in t (condition_waiters syncs c) ≡ false
asleep_of_condition t c deadline syncs is waiting true there =
    let none : condition_of_wait (wait_of (thread_at syncs.locks t)) ≡ None = ap condition_of_wait is in
    let some : condition_of_wait (wait_of (thread_at syncs.locks t)) ≡ Some c = (waiting.waiters c t there).waits in
    let no : ⊥ = cc in absurd no
asleep_of_condition t c deadline syncs is waiting false there = there

pub sleeper_free : (p t deadline : ℕ) (a : Rostered) → AreSyncedAt p a → wait_of (thread_in a.table p t) ≡ Some (SleepWait deadline) → IsNoWaiter t (part_of a.mutexes p) (part_of a.conditions p)
sleeper_free p t deadline a synced is =
    let syncs : Syncs = of_part p a in
    record {
      of_mutexes = λ m. asleep_of_mutex t m deadline syncs.locks is synced.ready.locked (is_in t (waiters_of (mutex_at syncs.locks m))) refl;
      of_conditions = λ c. asleep_of_condition t c deadline syncs is synced.waiting (is_in t (condition_waiters syncs c)) refl;
    }

-- the roster once it is woken
abbrev pub with_woken : ℕ → ℕ → Rostered → Rostered
with_woken p t a = record a { table = with_changed p t (woken_with (0 ∷ [])) a.table; lines = set a.lines p (part_of a.lines p ++ t ∷ []) }

abbrev woken_of : ℕ → ℕ → Rostered → Locks
woken_of p t a = after_wake t (0 ∷ []) (of_part p a).locks

-- the stored priorities are those that it leaves
slept_put : (p t deadline : ℕ) (a b : Rostered) → AreSyncedAt p a → wait_of (thread_in a.table p t) ≡ Some (SleepWait deadline) → b ≡ with_woken p t a → b ≡ put_locks p (woken_of p t a) a
slept_put p t deadline a b synced is e =
    let locks : Locks = (of_part p a).locks in
    let table : with_changed p t (woken_with (0 ∷ [])) a.table ≡ with_threads p (woken_of p t a) a.table =
    ap (with_changed p t (woken_with (0 ∷ []))) (sym (stays p a.table a.lines a.mutexes synced.ready)) ∙ wake_stored p t (0 ∷ []) a.table locks synced.ready.part.of_threads (asleep_none t deadline locks is) in
    let put : with_woken p t a ≡ put_locks p (woken_of p t a) a =
    λ i. record { table = table i; lines = set a.lines p (part_of a.lines p ++ t ∷ []); mutexes = sym (set_part-same a.mutexes p) i; conditions = a.conditions } in
    e ∙ put

slept_move : (p t deadline : ℕ) (a b : Rostered) → AreSyncedAt p a → wait_of (thread_in a.table p t) ≡ Some (SleepWait deadline) → b ≡ with_woken p t a → IsLocksMove p a b (woken_of p t a)
slept_move p t deadline a b synced is e =
    let locks : Locks = (of_part p a).locks in
    let moved : b ≡ put_locks p (woken_of p t a) a = slept_put p t deadline a b synced is e in
    record {
      before = synced.ready;
      moved = moved;
      after = put_ready p a b (woken_of p t a) synced.ready.part (locked_wake t (woken_with (0 ∷ [])) locks (asleep_none t deadline locks is) synced.ready.locked) moved;
    }

slept_waiting : (p t deadline : ℕ) (a : Rostered) → AreSyncedAt p a → wait_of (thread_in a.table p t) ≡ Some (SleepWait deadline) → AreWaiting (of_part p a) → AreWaiting (record { locks = woken_of p t a; conditions = part_of a.conditions p })
slept_waiting p t deadline a synced is waiting =
    let locks : Locks = (of_part p a).locks in
    let free : IsNoWaiter t (part_of a.mutexes p) (part_of a.conditions p) = sleeper_free p t deadline a synced is in
    waiting_kept locks (woken_of p t a) (part_of a.conditions p) (λ c k there may. apart_woken t k (woken_with (0 ∷ [])) locks (other_waiter t c k (part_of a.mutexes p) (part_of a.conditions p) free there)) waiting

pub synced_slept : (p t deadline : ℕ) (a b : Rostered) → AreSyncedAt p a → wait_of (thread_in a.table p t) ≡ Some (SleepWait deadline) → b ≡ with_woken p t a → AreSyncedAt p b
synced_slept p t deadline a b synced is e = synced_locks p a b (woken_of p t a) (slept_move p t deadline a b synced is e) (slept_waiting p t deadline a synced is) synced

pub sound_slept : (p t deadline : ℕ) (a b : Rostered) → AreSyncedAt p a → wait_of (thread_in a.table p t) ≡ Some (SleepWait deadline) → b ≡ with_woken p t a → IsSound a → IsSound b
sound_slept p t deadline a b synced is e sound = sound_locks p a b (woken_of p t a) (slept_move p t deadline a b synced is e) (slept_waiting p t deadline a synced is) sound

-- ---- the roster then

pub timed_out : (p t : ℕ) (wait : Option Wait) (a b : Rostered) → wait_of (thread_in a.table p t) ≡ wait → b ≡ put_syncs p (after_sync_timeout t wait (of_part p a)) a → b ≡ put_syncs p (after_sync_timeout t (wait_of (thread_in a.table p t)) (of_part p a)) a
timed_out p t wait a b is e = e ∙ ap (λ (w : Option Wait). put_syncs p (after_sync_timeout t w (of_part p a)) a) (sym is)

pub slept : (p t deadline : ℕ) (a b : Rostered) → AreSyncedAt p a → wait_of (thread_in a.table p t) ≡ Some (SleepWait deadline) → b ≡ with_woken p t a → b ≡ put_syncs p (after_sync_timeout t (wait_of (thread_in a.table p t)) (of_part p a)) a
slept p t deadline a b synced is e = timed_out p t (Some (SleepWait deadline)) a b is (as_syncs p a b (woken_of p t a) (slept_put p t deadline a b synced is e))

-- a thread in no timed wait stays
pub untimed : (p t : ℕ) (a : Rostered) → AreSyncedAt p a → after_sync_timeout t (wait_of (thread_in a.table p t)) (of_part p a) ≡ of_part p a → a ≡ put_syncs p (after_sync_timeout t (wait_of (thread_in a.table p t)) (of_part p a)) a
untimed p t a synced stay = put_none p a synced ∙ ap (λ (s : Syncs). put_syncs p s a) (sym stay)
