-- What the calls need of the roster, what it is after a move of one partition, and several moves one after the other.
use Rattle.std.specs.Fn.{iterate}
use Rattle.std.proofs.Common.{◌≡◌, ℕ, suc, ◌<◌, List, [], ◌∷◌, ◌++◌, length, refl, sym, ◌∙◌, ap, subst, true}
use Rattle.std.specs.Prelude.{Option, Some, None, IsSome}
use Rattle.std.proofs.Math.ListN.{set}
use Rattle.std.proofs.lemmas.List.{length-set, set-set, set-get_or}
use Rattle.ptk_words.specs.Pools.{pool_get, pool_set, is_in, without, first_of_greatest}
use Rattle.ptk_words.proofs.Pools.{changed_own, changed_twice}
use Rattle.ptk_words.specs.Parts.{part_of}
use Rattle.ptk_words.proofs.Cuts.{set_part-same}
use Rattle.ptk_words_model.specs.State.{Condition, Locks, Mutex, Syncs}
use Rattle.ptk_words.specs.declared.threads.Thread.{Thread}
use Rattle.ptk_words.specs.declared.threads.Wait.{Wait}
use Rattle.ptk_words.specs.declared.threads.Wait.TheVariants.{ConditionWait}
use Rattle.ptk_words_model.specs.Priority.{awaited, effective_priority, thread_at}
use Rattle.ptk_words.specs.Threads.{mutex_of_wait}
use Rattle.ptk_words_model.specs.Schedule.{with_thread}
use Rattle.ptk_words_model.specs.declared.LockMove.{LockMove}
use Rattle.ptk_words_model.specs.declared.LockMove.TheVariants.{Takes, Recovers, Counts, Waits, Refuses}
use Rattle.ptk_words_model.specs.Mutex.{wait_of, is_waiting, after_unlock, after_relock}
use Rattle.ptk_words_model.specs.Condition.{condition_waiters, mutex_of_condition_wait, after_condition_wait, after_unblock_for, after_signal, waiters_on}
use Rattle.ptk_words_sync_invariant.specs.Conditions.{HasRoom, IsNoWaiter}
use Rattle.ptk_words_sync_invariant.proofs.Gathered.{waiter_used}
use Rattle.ptk_threads.specs.LinkChanges.{few_of}
use Rattle.ptk_threads.specs.declared.thread_list.Members.{Members}
use Rattle.ptk_threads.specs.declared.thread_list.Members.TheVariants.{NoMember, OnlyMember}
use Rattle.ptk_threads.specs.Table.{ThreadTable, thread_in, stored_of, with_changed, with_wait}
use Rattle.ptk_threads.proofs.Pools.{part_of-set}
use Rattle.ptk_mutex.specs.SyncRosters.{Rostered}
use Rattle.ptk_mutex.specs.Waiters.{condition_of}
use Rattle.ptk_mutex.specs.Sound.{IsSound}
use Rattle.ptk_mutex.specs.Tables.{locks_by, put_locks, with_threads, HasPartBy, MayWait, AreLocked, AreReadyBy}
use Rattle.ptk_mutex.proofs.Locked.{none_first, only_first}
use Rattle.ptk_mutex.proofs.Moved.{stays}
use Rattle.ptk_mutex.proofs.Steps.{AreMoved, moved_locks, moved_ready}
use Rattle.ptk_mutex.proofs.Apart.{calm_unlock, may_relock}
use Rattle.ptk_mutex.proofs.Awake.{awake_none, awake_free}
pub use Rattle.ptk_mutex.proofs.Sound.{of_part, AreSyncedAt, put_locked, syncs_put, put_synced, sound_put}
use Rattle.ptk_cond.specs.Tables.{syncs_by, put_syncs, AreWaiting, AreSyncedBy, IsAwake, MayLeave, next_waiter}
use Rattle.ptk_cond.proofs.Asleep.{asleep-is}
use Rattle.ptk_cond.proofs.Waiters.{locked_sleep, waiting_unblock, waiting_wait, stored_next, next_may_leave}

-- ---- what the calls need

pub has_part : (p : ℕ) (table : ThreadTable) (lines : List (List ℕ)) (mutexes : List (List (Option Mutex))) (conditions : List (List (Option Condition))) → AreSyncedBy p table lines mutexes conditions → HasPartBy p table lines mutexes
has_part p table lines mutexes conditions synced = synced.ready.part

pub has_conditions : (p : ℕ) (table : ThreadTable) (lines : List (List ℕ)) (mutexes : List (List (Option Mutex))) (conditions : List (List (Option Condition))) → AreSyncedBy p table lines mutexes conditions → p < length conditions
has_conditions p table lines mutexes conditions synced = synced.of_conditions

pub has_ready : (p : ℕ) (table : ThreadTable) (lines : List (List ℕ)) (mutexes : List (List (Option Mutex))) (conditions : List (List (Option Condition))) → AreSyncedBy p table lines mutexes conditions → AreReadyBy p table lines mutexes
has_ready p table lines mutexes conditions synced = synced.ready

-- where somebody waits a condition variable is
pub waited_used : (p t c : ℕ) (table : ThreadTable) (lines : List (List ℕ)) (mutexes : List (List (Option Mutex))) (conditions : List (List (Option Condition))) → is_in t (condition_waiters (syncs_by p table lines mutexes conditions) c) ≡ true → IsSome (pool_get (part_of conditions p) c)
waited_used p t c table lines mutexes conditions there = waiter_used t (pool_get (part_of conditions p) c) there

-- a waiter may re-lock a mutex
pub waiter_may : (p t c : ℕ) (table : ThreadTable) (lines : List (List ℕ)) (mutexes : List (List (Option Mutex))) (conditions : List (List (Option Condition))) → AreSyncedBy p table lines mutexes conditions → is_in t (condition_waiters (syncs_by p table lines mutexes conditions) c) ≡ true → MayWait (locks_by p table lines mutexes) t
waiter_may p t c table lines mutexes conditions synced there = may_relock c t (locks_by p table lines mutexes) (synced.waiting.waiters c t there)

-- and is in use
pub waiter_in_use : (p t c : ℕ) (table : ThreadTable) (lines : List (List ℕ)) (mutexes : List (List (Option Mutex))) (conditions : List (List (Option Condition))) → AreSyncedBy p table lines mutexes conditions → is_in t (condition_waiters (syncs_by p table lines mutexes conditions) c) ≡ true → IsSome (thread_in table p t)
waiter_in_use p t c table lines mutexes conditions synced there = (waiter_may p t c table lines mutexes conditions synced there).used

-- and has room at the one that it named
pub waiter_room : (p t c m : ℕ) (table : ThreadTable) (lines : List (List ℕ)) (mutexes : List (List (Option Mutex))) (conditions : List (List (Option Condition))) → AreSyncedBy p table lines mutexes conditions → is_in t (condition_waiters (syncs_by p table lines mutexes conditions) c) ≡ true
    → Some m ≡ mutex_of_condition_wait (wait_of (thread_at (locks_by p table lines mutexes) t)) → HasRoom t (pool_get (part_of mutexes p) m)
waiter_room p t c m table lines mutexes conditions synced there named = (synced.waiting.waiters c t there).room m (sym named)

-- who waits for nothing is among no waiters
pub sleeper_free : (p t : ℕ) (table : ThreadTable) (lines : List (List ℕ)) (mutexes : List (List (Option Mutex))) (conditions : List (List (Option Condition))) → AreSyncedBy p table lines mutexes conditions → IsAwake (locks_by p table lines mutexes) t → IsNoWaiter t (part_of mutexes p) (part_of conditions p)
sleeper_free p t table lines mutexes conditions synced may = awake_free t (syncs_by p table lines mutexes conditions) may synced.ready.locked synced.waiting

-- ---- the choice

-- the first waiter of the greatest stored priority is the next one
pub next-is : (p c : ℕ) (o : Option ℕ) (table : ThreadTable) (lines : List (List ℕ)) (mutexes : List (List (Option Mutex))) (conditions : List (List (Option Condition))) → AreSyncedBy p table lines mutexes conditions → o ≡ first_of_greatest (stored_of (part_of table.stored p)) (waiters_on (pool_get (part_of conditions p) c)) → o ≡ next_waiter c (syncs_by p table lines mutexes conditions)
next-is p c o table lines mutexes conditions synced e = e ∙ stored_next c (syncs_by p table lines mutexes conditions) (part_of table.stored p) synced.waiting synced.ready.stored

-- and waits
pub next_may : (p c : ℕ) (o : Option ℕ) (table : ThreadTable) (lines : List (List ℕ)) (mutexes : List (List (Option Mutex))) (conditions : List (List (Option Condition))) → AreSyncedBy p table lines mutexes conditions → o ≡ first_of_greatest (stored_of (part_of table.stored p)) (waiters_on (pool_get (part_of conditions p) c)) → MayLeave o (syncs_by p table lines mutexes conditions) c
next_may p c o table lines mutexes conditions synced e = next_may_leave c (syncs_by p table lines mutexes conditions) o (next-is p c o table lines mutexes conditions synced e)

-- without waiters there is none
pub unwaited-is : (p c : ℕ) (few : Members) (table : ThreadTable) (lines : List (List ℕ)) (mutexes : List (List (Option Mutex))) (conditions : List (List (Option Condition))) → few ≡ few_of (waiters_on (pool_get (part_of conditions p) c)) → few ≡ NoMember → None ≡ next_waiter c (syncs_by p table lines mutexes conditions)
unwaited-is p c few table lines mutexes conditions e none = none_first (effective_priority (syncs_by p table lines mutexes conditions).locks) (waiters_on (pool_get (part_of conditions p) c)) (sym e ∙ none)

-- the only waiter is the next one
pub sole-is : (p c t : ℕ) (few : Members) (table : ThreadTable) (lines : List (List ℕ)) (mutexes : List (List (Option Mutex))) (conditions : List (List (Option Condition))) → few ≡ few_of (waiters_on (pool_get (part_of conditions p) c)) → few ≡ OnlyMember t → Some t ≡ next_waiter c (syncs_by p table lines mutexes conditions)
sole-is p c t few table lines mutexes conditions e only = only_first (effective_priority (syncs_by p table lines mutexes conditions).locks) (waiters_on (pool_get (part_of conditions p) c)) t (sym e ∙ only)

-- and waits
pub sole_may : (p c t : ℕ) (few : Members) (table : ThreadTable) (lines : List (List ℕ)) (mutexes : List (List (Option Mutex))) (conditions : List (List (Option Condition))) → few ≡ few_of (waiters_on (pool_get (part_of conditions p) c)) → few ≡ OnlyMember t → MayLeave (Some t) (syncs_by p table lines mutexes conditions) c
sole_may p c t few table lines mutexes conditions e only = next_may_leave c (syncs_by p table lines mutexes conditions) (Some t) (sole-is p c t few table lines mutexes conditions e only)

pub ruleset choices = (next-is, next_may, unwaited-is, sole-is, sole_may, has_part, has_conditions)

-- ---- the roster after a move

-- nothing moved
pub put_none : (p : ℕ) (a : Rostered) → AreSyncedAt p a → a ≡ put_syncs p (of_part p a) a
put_none p a synced =
    let table : a.table ≡ with_threads p (of_part p a).locks a.table = sym (stays p a.table a.lines a.mutexes synced.ready) in
    λ i. record {
      table = table i;
      lines = sym (set_part-same a.lines p) i;
      mutexes = sym (set_part-same a.mutexes p) i;
      conditions = sym (set_part-same a.conditions p) i;
    }

put_twice : (p : ℕ) (syncs more : Syncs) (a : Rostered) → put_syncs p more (put_syncs p syncs a) ≡ put_syncs p more a
put_twice p syncs more a = rw (set-set, set-set, set-set, set-set, set-set) refl

-- one more move
put_more : (p : ℕ) (f : Syncs → Syncs) (a b after : Rostered) (syncs : Syncs) → AreSyncedAt p a → b ≡ put_syncs p syncs a → after ≡ put_syncs p (f (of_part p b)) b → after ≡ put_syncs p (f syncs) a
put_more p f a b after syncs synced e more =
    more ∙ ap (λ (s : Syncs). put_syncs p (f s) b) (syncs_put p a b syncs synced e) ∙ ap (put_syncs p (f syncs)) e ∙ put_twice p syncs (f syncs) a

-- ---- the waiters of a condition variable changed first

-- the roster with these waiters of a condition variable
abbrev pub with_waiters_on : ℕ → ℕ → List ℕ → Rostered → Rostered
with_waiters_on p c ks a = record a { conditions = set a.conditions p (pool_set (part_of a.conditions p) c (Some (condition_of ks))) }

-- the mutex calls find it as before
pub ready_waiters : (p c : ℕ) (ks : List ℕ) (a b : Rostered) → b ≡ with_waiters_on p c ks a → AreReadyBy p a.table a.lines a.mutexes → AreReadyBy p b.table b.lines b.mutexes
ready_waiters p c ks a b e ready = subst (λ (r : Rostered). AreReadyBy p r.table r.lines r.mutexes) (sym e) ready

pub same_waiters : (p c : ℕ) (ks : List ℕ) (a b : Rostered) → b ≡ with_waiters_on p c ks a → locks_by p b.table b.lines b.mutexes ≡ locks_by p a.table a.lines a.mutexes
same_waiters p c ks a b e = ap (λ (r : Rostered). locks_by p r.table r.lines r.mutexes) e

-- and then the rest moved
pub put_waiters : (p c : ℕ) (ks : List ℕ) (f : Locks → Locks) (a b after : Rostered) → b ≡ with_waiters_on p c ks a → after ≡ put_locks p (f (locks_by p b.table b.lines b.mutexes)) b
    → after ≡ put_locks p (f (locks_by p a.table a.lines a.mutexes)) (with_waiters_on p c ks a)
put_waiters p c ks f a b after e moved = moved ∙ ap (λ (r : Rostered). put_locks p (f (locks_by p r.table r.lines r.mutexes)) r) e

-- a move that begins a wait
pub is_waiting-waits : (made : LockMove) → is_waiting made ≡ true → made ≡ Waits
is_waiting-waits Takes e = let no : ⊥ = cc in absurd no
is_waiting-waits Recovers e = let no : ⊥ = cc in absurd no
is_waiting-waits Counts e = let no : ⊥ = cc in absurd no
is_waiting-waits Waits e = refl
is_waiting-waits (Refuses n) e = let no : ⊥ = cc in absurd no

-- a waiter left, and re-locked the mutex that it named
unblocked : (p t c m : ℕ) (reply named : Option ℕ) (a b after : Rostered) → named ≡ Some m → b ≡ with_waiters_on p c (without t (waiters_on (pool_get (part_of a.conditions p) c))) a
    → after ≡ put_locks p (after_relock t m reply (locks_by p b.table b.lines b.mutexes)) b → after ≡ put_syncs p (after_unblock_for t c reply named (of_part p a)) a
unblocked p t c m reply named a b after is e moved =
    subst (λ (o : Option ℕ). after ≡ put_syncs p (after_unblock_for t c reply o (of_part p a)) a) (sym is)
    (put_waiters p c (without t (waiters_on (pool_get (part_of a.conditions p) c))) (after_relock t m reply) a b after e moved)

-- and waiters still wait
unblocked_waiting : (t c m : ℕ) (reply named : Option ℕ) (syncs : Syncs) → named ≡ Some m → is_in t (condition_waiters syncs c) ≡ true → AreWaiting syncs → AreWaiting (after_unblock_for t c reply named syncs)
unblocked_waiting t c m reply named syncs is there waiting =
    subst (λ (o : Option ℕ). AreWaiting (after_unblock_for t c reply o syncs)) (sym is) (waiting_unblock t c m reply syncs there waiting)

-- and the calls find the roster as they need it
pub unblocked_synced : (p t c m : ℕ) (reply named : Option ℕ) (a b after : Rostered) → AreSyncedAt p a → is_in t (condition_waiters (of_part p a) c) ≡ true → named ≡ Some m → b ≡ with_waiters_on p c (without t (waiters_on (pool_get (part_of a.conditions p) c))) a
    → after ≡ put_locks p (after_relock t m reply (locks_by p b.table b.lines b.mutexes)) b → AreReadyBy p after.table after.lines after.mutexes → AreSyncedAt p after
unblocked_synced p t c m reply named a b after synced there is e moved ready =
    put_synced p a after (after_unblock_for t c reply named (of_part p a)) synced (unblocked p t c m reply named a b after is e moved) ready
    (unblocked_waiting t c m reply named (of_part p a) is there synced.waiting)

-- in every partition
pub unblocked_sound : (p t c m : ℕ) (reply named : Option ℕ) (a b after : Rostered) → AreSyncedAt p a → is_in t (condition_waiters (of_part p a) c) ≡ true → named ≡ Some m → b ≡ with_waiters_on p c (without t (waiters_on (pool_get (part_of a.conditions p) c))) a
    → after ≡ put_locks p (after_relock t m reply (locks_by p b.table b.lines b.mutexes)) b → AreReadyBy p after.table after.lines after.mutexes → IsSound a → IsSound after
unblocked_sound p t c m reply named a b after synced there is e moved ready =
    sound_put p a after (after_unblock_for t c reply named (of_part p a)) (unblocked p t c m reply named a b after is e moved)
    (unblocked_synced p t c m reply named a b after synced there is e moved ready)

-- after an unlock a thread that is awake begins to wait, and mutexes' waiters still wait
pub locked_wait : (p t m : ℕ) (wait : Option Wait) (table table' : ThreadTable) (lines lines' : List (List ℕ)) (mutexes mutexes' : List (List (Option Mutex))) → AreReadyBy p table lines mutexes → IsAwake (locks_by p table lines mutexes) t
    → AreMoved p table lines mutexes table' lines' mutexes' (after_unlock m (locks_by p table lines mutexes)) → AreReadyBy p table' lines' mutexes' → AreLocked (with_thread t (λ thread. record thread { wait = wait }) (after_unlock m (locks_by p table lines mutexes)))
locked_wait p t m wait table table' lines lines' mutexes mutexes' ready may moved after =
    let locks : Locks = locks_by p table lines mutexes in
    let none : awaited (thread_at locks t) ≡ None = awake_none t locks may in
    let still : awaited (thread_at (after_unlock m locks) t) ≡ None = ap awaited ((calm_unlock m locks ready.locked).threads t none) ∙ none in
    let locked : AreLocked (after_unlock m locks) = subst (λ (l : Locks). AreLocked l) (moved_locks p table table' lines lines' mutexes mutexes' (after_unlock m locks) ready.part moved) after.locked in
    locked_sleep t wait (after_unlock m locks) still locked

-- and no stored priority changes then
pub sleep-is : (p t m : ℕ) (wait : Option Wait) (table table' new : ThreadTable) (lines : List (List ℕ)) (mutexes : List (List (Option Mutex))) → AreReadyBy p table lines mutexes → IsAwake (locks_by p table lines mutexes) t → mutex_of_wait wait ≡ None
    → table' ≡ with_threads p (after_unlock m (locks_by p table lines mutexes)) table → new ≡ with_changed p t (with_wait wait) table' → new ≡ with_threads p (with_thread t (λ thread. record thread { wait = wait }) (after_unlock m (locks_by p table lines mutexes))) table
sleep-is p t m wait table table' new lines mutexes ready may unawaited e changed =
    let locks : Locks = locks_by p table lines mutexes in
    let none : awaited (thread_at locks t) ≡ None = awake_none t locks may in
    let still : awaited (thread_at (after_unlock m locks) t) ≡ None = ap awaited ((calm_unlock m locks ready.locked).threads t none) ∙ none in
    changed ∙ ap (with_changed p t (with_wait wait)) e ∙ asleep-is p t wait (after_unlock m locks) table ready.part.of_threads unawaited still

-- a thread that is awake joined the waiters, and the mutex was unlocked
abbrev joined : ℕ → ℕ → ℕ → ℕ → Rostered → Rostered
joined p t c m a = put_locks p (after_unlock m (locks_by p a.table a.lines a.mutexes)) (with_waiters_on p c (waiters_on (pool_get (part_of a.conditions p) c) ++ t ∷ []) a)

joined-is : (p t c m : ℕ) (a b unlocked : Rostered) → b ≡ with_waiters_on p c (waiters_on (pool_get (part_of a.conditions p) c) ++ t ∷ []) a → unlocked ≡ put_locks p (after_unlock m (locks_by p b.table b.lines b.mutexes)) b → unlocked ≡ joined p t c m a
joined-is p t c m a b unlocked e unlock = put_waiters p c (waiters_on (pool_get (part_of a.conditions p) c) ++ t ∷ []) (after_unlock m) a b unlocked e unlock

-- it is in use still
pub still_in_use : (p t c m : ℕ) (a b unlocked : Rostered) → AreSyncedAt p a → IsAwake (locks_by p a.table a.lines a.mutexes) t → b ≡ with_waiters_on p c (waiters_on (pool_get (part_of a.conditions p) c) ++ t ∷ []) a → unlocked ≡ put_locks p (after_unlock m (locks_by p b.table b.lines b.mutexes)) b → IsSome (thread_in unlocked.table p t)
still_in_use p t c m a b unlocked synced may e unlock =
    let locks : Locks = locks_by p a.table a.lines a.mutexes in
    let here : part_of unlocked.table.threads p ≡ (after_unlock m locks).threads = ap (λ (r : Rostered). part_of r.table.threads p) (joined-is p t c m a b unlocked e unlock) ∙ part_of-set a.table.threads p (after_unlock m locks).threads synced.ready.part.of_threads in
    let same : thread_at (after_unlock m locks) t ≡ thread_at locks t = (calm_unlock m locks synced.ready.locked).threads t (awake_none t locks may) in
    subst (λ (x : Option Thread). IsSome x) (sym (ap (λ (threads : List (Option Thread)). pool_get threads t) here ∙ same)) may.used

-- then its wait began
pub asleep : (p t c m : ℕ) (deadline : Option ℕ) (a b unlocked after : Rostered) → AreSyncedAt p a → IsAwake (locks_by p a.table a.lines a.mutexes) t → b ≡ with_waiters_on p c (waiters_on (pool_get (part_of a.conditions p) c) ++ t ∷ []) a → unlocked ≡ put_locks p (after_unlock m (locks_by p b.table b.lines b.mutexes)) b
    → after ≡ record unlocked { table = with_changed p t (with_wait (Some (ConditionWait c m deadline))) unlocked.table } → after ≡ put_syncs p (after_condition_wait t c m deadline (of_part p a)) a
asleep p t c m deadline a b unlocked after synced may e unlock waits =
    let wait : Option Wait = Some (ConditionWait c m deadline) in
    waits ∙ ap (λ (r : Rostered). record r { table = with_changed p t (with_wait wait) r.table }) (joined-is p t c m a b unlocked e unlock)
    ∙ ap (λ (table : ThreadTable). record (joined p t c m a) { table = table })
    (sleep-is p t m wait a.table (with_threads p (after_unlock m (locks_by p a.table a.lines a.mutexes)) a.table) _ a.lines a.mutexes synced.ready may refl refl refl)

asleep_ready : (p t c m : ℕ) (deadline : Option ℕ) (a unlocked after : Rostered) → AreSyncedAt p a → IsAwake (locks_by p a.table a.lines a.mutexes) t → unlocked ≡ joined p t c m a
    → AreReadyBy p unlocked.table unlocked.lines unlocked.mutexes → after ≡ put_syncs p (after_condition_wait t c m deadline (of_part p a)) a → AreReadyBy p after.table after.lines after.mutexes
asleep_ready p t c m deadline a unlocked after synced may e ready done =
    let first : AreMoved p a.table a.lines a.mutexes unlocked.table unlocked.lines unlocked.mutexes (after_unlock m (locks_by p a.table a.lines a.mutexes)) =
    record { of_threads = ap (λ (r : Rostered). r.table) e; of_lines = ap (λ (r : Rostered). r.lines) e; of_mutexes = ap (λ (r : Rostered). r.mutexes) e } in
    let then : Syncs = after_condition_wait t c m deadline (of_part p a) in
    moved_ready p a.table after.table a.lines after.lines a.mutexes after.mutexes then.locks synced.ready.part
    (locked_wait p t m (Some (ConditionWait c m deadline)) a.table unlocked.table a.lines unlocked.lines a.mutexes unlocked.mutexes synced.ready may first ready) (put_locked p a after then done)

-- and the calls find the roster as they need it
pub asleep_synced : (p t c m : ℕ) (deadline : Option ℕ) (a b unlocked after : Rostered) → AreSyncedAt p a → IsAwake (locks_by p a.table a.lines a.mutexes) t → b ≡ with_waiters_on p c (waiters_on (pool_get (part_of a.conditions p) c) ++ t ∷ []) a → unlocked ≡ put_locks p (after_unlock m (locks_by p b.table b.lines b.mutexes)) b
    → AreReadyBy p unlocked.table unlocked.lines unlocked.mutexes → after ≡ record unlocked { table = with_changed p t (with_wait (Some (ConditionWait c m deadline))) unlocked.table } → AreSyncedAt p after
asleep_synced p t c m deadline a b unlocked after synced may e unlock ready waits =
    let done : after ≡ put_syncs p (after_condition_wait t c m deadline (of_part p a)) a = asleep p t c m deadline a b unlocked after synced may e unlock waits in
    put_synced p a after (after_condition_wait t c m deadline (of_part p a)) synced done (asleep_ready p t c m deadline a unlocked after synced may (joined-is p t c m a b unlocked e unlock) ready done)
    (waiting_wait t c m deadline (of_part p a) may synced.ready.locked synced.waiting)

-- in every partition
pub asleep_sound : (p t c m : ℕ) (deadline : Option ℕ) (a b unlocked after : Rostered) → AreSyncedAt p a → IsAwake (locks_by p a.table a.lines a.mutexes) t → b ≡ with_waiters_on p c (waiters_on (pool_get (part_of a.conditions p) c) ++ t ∷ []) a → unlocked ≡ put_locks p (after_unlock m (locks_by p b.table b.lines b.mutexes)) b
    → AreReadyBy p unlocked.table unlocked.lines unlocked.mutexes → after ≡ record unlocked { table = with_changed p t (with_wait (Some (ConditionWait c m deadline))) unlocked.table } → IsSound a → IsSound after
asleep_sound p t c m deadline a b unlocked after synced may e unlock ready waits =
    sound_put p a after (after_condition_wait t c m deadline (of_part p a)) (asleep p t c m deadline a b unlocked after synced may e unlock waits)
    (asleep_synced p t c m deadline a b unlocked after synced may e unlock ready waits)

-- ---- all waiters unblocked, one after the other

-- so many signals are left of all
pub record AreSignalled (p c left total : ℕ) (a b : Rostered) : Type 0 where
  pub synced : AreSyncedAt p b
  pub moved : b ≡ put_syncs p (of_part p b) a
  pub same : iterate (after_signal c) left (of_part p b) ≡ iterate (after_signal c) total (of_part p a)

pub signalled_more : (p c left rest total : ℕ) (a b after : Rostered) → AreSyncedAt p a → rest ≡ suc left → AreSignalled p c rest total a b → after ≡ put_syncs p (after_signal c (of_part p b)) b → AreSyncedAt p after → AreSignalled p c left total a after
signalled_more p c left rest total a b after start e signalled more synced =
    let at : of_part p after ≡ after_signal c (of_part p b) = syncs_put p b after (after_signal c (of_part p b)) signalled.synced more in
    record {
      synced = synced;
      moved = put_more p (after_signal c) a b after (of_part p b) start signalled.moved more ∙ ap (λ (s : Syncs). put_syncs p s a) (sym at);
      same = ap (iterate (after_signal c) left) at ∙ ap (λ (n : ℕ). iterate (after_signal c) n (of_part p b)) (sym e) ∙ signalled.same;
    }

pub ruleset waits = (has_part, has_conditions, has_ready, sleeper_free, still_in_use, changed_own, changed_twice, part_of-set, set-set, set-get_or, length-set)

pub ruleset steps = (has_part, has_conditions, has_ready, waited_used, waiter_may, waiter_in_use, waiter_room, stays, set_part-same)
