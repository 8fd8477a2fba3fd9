-- What a rise needs of the tables before it, and what the moves leave that raise a thread or nobody.
use Rattle.std.proofs.Common.{◌≡◌, ℕ, ◌<◌, ◌≤◌, List, [], ◌∷◌, ◌++◌, length, map, refl, sym, ◌∙◌, ap, subst, arith, true, false}
use Rattle.std.specs.Prelude.{IsSome, Option, Some, None, option_map, option_and_then, option_to_list}
use Rattle.std.proofs.Math.ListN.{set}
use Rattle.std.proofs.lemmas.Bool.{eq-eqb}
use Rattle.std.proofs.lemmas.List.{set-set}
use Rattle.ptk_words.specs.Pools.{pool_get, pool_changed}
use Rattle.ptk_words.specs.declared.threads.Thread.{Thread}
use Rattle.ptk_words.specs.declared.threads.Wait.{Wait}
use Rattle.ptk_words.specs.declared.threads.Wait.TheVariants.{RelockWait}
use Rattle.ptk_words.specs.Threads.{mutex_of_wait}
use Rattle.ptk_words.proofs.Pools.{changed_twice, changed_own}
use Rattle.ptk_words.specs.Parts.{part_of}
use Rattle.ptk_words.proofs.Cuts.{set_part-same}
use Rattle.ptk_words_model.specs.declared.LockMove.{LockMove}
use Rattle.ptk_words_model.specs.declared.LockMove.TheVariants.{Takes, Recovers, Counts, Waits, Refuses}
use Rattle.ptk_words_model.specs.State.{Mutex, Locks}
use Rattle.ptk_words_model.specs.Priority.{awaited, thread_at, assigned_of, inheritor, inheritor_of, ceiling_for, next_in_chain, effective_priorities}
use Rattle.ptk_words_model.specs.Schedule.{woken_with, after_wake}
use Rattle.ptk_words_model.specs.Mutex.{owns, move_reply, after_move, after_wait, after_relock_move, is_waiting}
use Rattle.ptk_words_sync_invariant.proofs.Raising.{level_of, woken_awaits}
use Rattle.ptk_threads.specs.Table.{ThreadTable, thread_in, with_changed, with_wait, with_priority}
use Rattle.ptk_threads.proofs.Pools.{part_of-set}
use Rattle.ptk_roster.specs.declared.slot.Change.TheVariants.{Take, CountUp, CountDown, Release, Abandon, Mark}
use Rattle.ptk_roster.specs.declared.slot.Change.{Change}
use Rattle.ptk_roster.specs.Changes.{mutex_changed, KeepsOwner}
use Rattle.ptk_roster.specs.Slots.{bare}
use Rattle.ptk_roster.proofs.Bare.{pool_get-bare, inheritor_of-waiters}
use Rattle.ptk_roster.proofs.Raising.{same_owner_raises_alike, keeps_protocol, effective_mutex}
use Rattle.ptk_mutex.specs.Moves.{after_change}
use Rattle.ptk_roster.specs.Rosters.{Rostered}
use Rattle.ptk_roster.specs.Waiters.{waited_by}
use Rattle.ptk_mutex.specs.Before.{awake, freed, IsBeforeWait, IsBeforeTake, IsBeforeAssignment}
use Rattle.ptk_mutex.specs.Visits.{IsVisited}
use Rattle.ptk_mutex.proofs.Changes.{effective_thread}
use Rattle.ptk_mutex.specs.Tables.{locks_by, put_locks, put_locks_alone, with_threads, HasPartBy, AreReadyBy}
use Rattle.ptk_mutex.specs.Rosters.{with_priorities}
use Rattle.ptk_mutex.specs.Rises.{IsFree}
use Rattle.ptk_mutex.proofs.Locked.{waiting_entry}
use Rattle.ptk_mutex.proofs.Steps.{refreshed_put}

-- ---- a free mutex taken

taken_inheritor : (t : ℕ) (x : Option Mutex) → IsFree x → inheritor_of (option_map (λ (a : Mutex). freed (mutex_changed (Take t) a)) x) ≡ inheritor_of x
taken_inheritor t None free = absurd free
taken_inheritor t (Some a) free = ap (inheritor a.protocol) (sym free)

taken_ceiling : (t u : ℕ) (x : Option Mutex) → IsFree x → ceiling_for u (option_map (λ (a : Mutex). freed (mutex_changed (Take t) a)) x) ≡ ceiling_for u x
taken_ceiling t u None free = absurd free
taken_ceiling t u (Some a) free = rw free refl

taken_owner : (t : ℕ) (x : Option Mutex) → IsFree x → owns t (option_map (mutex_changed (Take t)) x) ≡ true
taken_owner t None free = absurd free
taken_owner t (Some a) free = eq-eqb t t refl

pub take_owned : (p t m : ℕ) (mutexes mutexes' : List (List (Option Mutex))) → p < length mutexes → IsFree (pool_get (part_of mutexes p) m) → mutexes' ≡ set mutexes p (pool_changed m (mutex_changed (Take t)) (part_of mutexes p))
    → owns t (pool_get (part_of mutexes' p) m) ≡ true
take_owned p t m mutexes mutexes' lt free e =
    ap (λ l. owns t (pool_get (part_of l p) m)) e ∙ ap (λ row. owns t (pool_get row m)) (part_of-set mutexes p (pool_changed m (mutex_changed (Take t)) (part_of mutexes p)) lt)
    ∙ ap (owns t) (changed_own m (mutex_changed (Take t)) (part_of mutexes p)) ∙ taken_owner t (pool_get (part_of mutexes p) m) free

take_effective : (t m : ℕ) (threads : List (Option Thread)) (row : List (Option Mutex)) → IsFree (pool_get row m) → effective_priorities threads (pool_changed m freed (pool_changed m (mutex_changed (Take t)) row)) ≡ effective_priorities threads row
take_effective t m threads row free =
    ap (effective_priorities threads) (changed_twice m freed (mutex_changed (Take t)) row)
    ∙ effective_mutex m (λ a. freed (mutex_changed (Take t) a)) threads row (taken_inheritor t (pool_get row m) free) (λ u. taken_ceiling t u (pool_get row m) free)

-- the stored priorities are those of before the take
pub take_before : (p t m : ℕ) (table table' : ThreadTable) (lines : List (List ℕ)) (mutexes mutexes' : List (List (Option Mutex))) → AreReadyBy p table lines mutexes → IsFree (pool_get (part_of mutexes p) m)
    → table' ≡ table → mutexes' ≡ set mutexes p (pool_changed m (mutex_changed (Take t)) (part_of mutexes p)) → IsBeforeTake m (part_of table'.threads p) (part_of mutexes' p) (part_of table'.stored p)
take_before p t m table table' lines mutexes mutexes' ready free same e =
    let row : List (Option Mutex) = part_of mutexes p in
    let here : part_of mutexes' p ≡ pool_changed m (mutex_changed (Take t)) row = ap (λ l. part_of l p) e ∙ part_of-set mutexes p (pool_changed m (mutex_changed (Take t)) row) ready.part.of_mutexes in
    let before : IsBeforeTake m (part_of table.threads p) (part_of mutexes' p) (part_of table.stored p) =
    ready.stored ∙ sym (ap (λ l. effective_priorities (part_of table.threads p) (pool_changed m freed l)) here ∙ take_effective t m (part_of table.threads p) row free) in
    subst (λ (l : ThreadTable). IsBeforeTake m (part_of l.threads p) (part_of mutexes' p) (part_of l.stored p)) (sym same) before

-- ---- a mutex that keeps its owner

keeps_owner : (change : Change) → KeepsOwner change → (mutex : Mutex) → (mutex_changed change mutex).owner ≡ mutex.owner
keeps_owner (Take t) keeps mutex = absurd keeps
keeps_owner CountUp keeps mutex = refl
keeps_owner CountDown keeps mutex = refl
keeps_owner Release keeps mutex = absurd keeps
keeps_owner Abandon keeps mutex = absurd keeps
keeps_owner (Mark soundness) keeps mutex = refl

-- it raises whom it raised
pub amended_put : (change : Change) (p m : ℕ) (a b : Rostered) → KeepsOwner change → AreReadyBy p a.table a.lines a.mutexes → b ≡ record a { mutexes = set a.mutexes p (pool_changed m (mutex_changed change) (part_of a.mutexes p)) }
    → b ≡ put_locks p (after_change change m (locks_by p a.table a.lines a.mutexes)) a
amended_put change p m a b keeps ready e =
    let row : List (Option Mutex) = pool_changed m (mutex_changed change) (part_of a.mutexes p) in
    let same : effective_priorities (part_of a.table.threads p) row ≡ part_of a.table.stored p =
    same_owner_raises_alike (part_of a.table.threads p) (part_of a.mutexes p) m (mutex_changed change) (keeps_protocol change) (keeps_owner change keeps) ∙ sym ready.stored in
    let table : a.table ≡ with_threads p (after_change change m (locks_by p a.table a.lines a.mutexes)) a.table = rw (same, set_part-same, set_part-same) refl in
    e ∙ (λ i. record a { table = table i; lines = sym (set_part-same a.lines p) i; mutexes = set a.mutexes p row })

-- ---- a thread that begins to wait

joined_inheritor : (t : ℕ) (x : Option Mutex) → inheritor_of (option_map (waited_by t) x) ≡ inheritor_of x
joined_inheritor t None = refl
joined_inheritor t (Some a) = refl

joined_ceiling : (t u : ℕ) (x : Option Mutex) → ceiling_for u (option_map (waited_by t) x) ≡ ceiling_for u x
joined_ceiling t u None = refl
joined_ceiling t u (Some a) = refl

awake_level : (wait : Wait) (x : Option Thread) → level_of (option_map (λ (a : Thread). awake (with_wait (Some wait) a)) x) ≡ level_of x
awake_level wait None = refl
awake_level wait (Some thread) = refl

awake_awaits : (wait : Wait) (x : Option Thread) → awaited x ≡ None → awaited (option_map (λ (a : Thread). awake (with_wait (Some wait) a)) x) ≡ awaited x
awake_awaits wait None e = refl
awake_awaits wait (Some thread) e = sym e

block_effective : (t m : ℕ) (wait : Wait) (threads : List (Option Thread)) (row : List (Option Mutex)) → awaited (pool_get threads t) ≡ None
    → effective_priorities (pool_changed t awake (pool_changed t (with_wait (Some wait)) threads)) (pool_changed m (waited_by t) row) ≡ effective_priorities threads row
block_effective t m wait threads row none =
    ap (λ l. effective_priorities l (pool_changed m (waited_by t) row)) (changed_twice t awake (with_wait (Some wait)) threads)
    ∙ effective_thread t (λ a. awake (with_wait (Some wait) a)) threads (pool_changed m (waited_by t) row) (awake_level wait (pool_get threads t)) (awake_awaits wait (pool_get threads t) none)
    ∙ effective_mutex m (waited_by t) threads row (joined_inheritor t (pool_get row m)) (λ u. joined_ceiling t u (pool_get row m))

-- the stored priorities are those of before the wait
pub block_before : (p t m : ℕ) (wait : Wait) (table table' : ThreadTable) (lines : List (List ℕ)) (mutexes mutexes' : List (List (Option Mutex))) → AreReadyBy p table lines mutexes → awaited (thread_in table p t) ≡ None
    → mutexes' ≡ set mutexes p (pool_changed m (waited_by t) (part_of mutexes p)) → table' ≡ with_changed p t (with_wait (Some wait)) table → IsBeforeWait t (part_of table'.threads p) (part_of mutexes' p) (part_of table'.stored p)
block_before p t m wait table table' lines mutexes mutexes' ready none e f =
    let row : List (Option Mutex) = part_of mutexes p in
    let threads : List (Option Thread) = part_of table.threads p in
    let here : part_of mutexes' p ≡ pool_changed m (waited_by t) row = ap (λ l. part_of l p) e ∙ part_of-set mutexes p (pool_changed m (waited_by t) row) ready.part.of_mutexes in
    let there : part_of table'.threads p ≡ pool_changed t (with_wait (Some wait)) threads = ap (λ (l : ThreadTable). part_of l.threads p) f ∙ part_of-set table.threads p (pool_changed t (with_wait (Some wait)) threads) ready.part.of_threads in
    let stored : part_of table'.stored p ≡ part_of table.stored p = ap (λ (l : ThreadTable). part_of l.stored p) f in
    stored ∙ ready.stored
    ∙ sym (ap (λ l. effective_priorities (pool_changed t awake l) (part_of mutexes' p)) there ∙ ap (effective_priorities (pool_changed t awake (pool_changed t (with_wait (Some wait)) threads))) here
    ∙ block_effective t m wait threads row none)

-- what is read of the mutex without its waiters
pub inheritor-read : (m : ℕ) (o : Option ℕ) (row slots : List (Option Mutex)) → slots ≡ map bare row → o ≡ inheritor_of (pool_get slots m) → o ≡ inheritor_of (pool_get row m)
inheritor-read m o row slots e told = told ∙ ap (λ l. inheritor_of (pool_get l m)) e ∙ ap inheritor_of (pool_get-bare row m) ∙ inheritor_of-waiters [] (pool_get row m)

-- the owner of an INHERIT mutex is then the next one of the thread's chain
pub block_next : (p t m : ℕ) (wait : Wait) (o : Option ℕ) (table table' : ThreadTable) (lines : List (List ℕ)) (mutexes mutexes' : List (List (Option Mutex))) → AreReadyBy p table lines mutexes → mutex_of_wait (Some wait) ≡ Some m → IsSome (thread_in table p t)
    → o ≡ inheritor_of (pool_get (part_of mutexes p) m) → mutexes' ≡ set mutexes p (pool_changed m (waited_by t) (part_of mutexes p)) → table' ≡ with_changed p t (with_wait (Some wait)) table → o ≡ next_in_chain (part_of table'.threads p) (part_of mutexes' p) t
block_next p t m wait o table table' lines mutexes mutexes' ready named used told e f =
    let row : List (Option Mutex) = part_of mutexes p in
    let threads : List (Option Thread) = part_of table.threads p in
    let here : part_of mutexes' p ≡ pool_changed m (waited_by t) row = ap (λ l. part_of l p) e ∙ part_of-set mutexes p (pool_changed m (waited_by t) row) ready.part.of_mutexes in
    let there : part_of table'.threads p ≡ pool_changed t (with_wait (Some wait)) threads = ap (λ (l : ThreadTable). part_of l.threads p) f ∙ part_of-set table.threads p (pool_changed t (with_wait (Some wait)) threads) ready.part.of_threads in
    let waits : awaited (pool_get (part_of table'.threads p) t) ≡ Some m = ap (λ l. awaited (pool_get l t)) there ∙ ap awaited (changed_own t (with_wait (Some wait)) threads) ∙ waiting_entry m wait (pool_get threads t) named used in
    let owner : inheritor_of (pool_get (part_of mutexes' p) m) ≡ inheritor_of (pool_get row m) = ap (λ l. inheritor_of (pool_get l m)) here ∙ ap inheritor_of (changed_own m (waited_by t) row) ∙ joined_inheritor t (pool_get row m) in
    told ∙ sym (ap (option_and_then (λ n. inheritor_of (pool_get (part_of mutexes' p) n))) waits ∙ owner)

-- and with the effective priorities stored the roster is as the wait leaves it
pub block_put : (p t m : ℕ) (wait : Wait) (a mid b : Rostered) → HasPartBy p a.table a.lines a.mutexes
    → mid ≡ record a { table = with_changed p t (with_wait (Some wait)) a.table; mutexes = set a.mutexes p (pool_changed m (waited_by t) (part_of a.mutexes p)) }
    → b ≡ with_priorities p (effective_priorities (part_of mid.table.threads p) (part_of mid.mutexes p)) mid → b ≡ put_locks p (after_wait t m wait (locks_by p a.table a.lines a.mutexes)) a
block_put p t m wait a mid b has e f =
    let locks : Locks = after_wait t m wait (locks_by p a.table a.lines a.mutexes) in
    let alone : mid ≡ put_locks_alone p locks a = e ∙ ap (λ (l : List (List ℕ)). record (put_locks_alone p locks a) { lines = l }) (sym (set_part-same a.lines p)) in
    refreshed_put p a mid b locks has alone f

-- ---- a higher assigned priority

given_level : (before after : ℕ) (x : Option Thread) → before ≡ level_of x → level_of (option_map (λ (a : Thread). with_priority before (with_priority after a)) x) ≡ level_of x
given_level before after None e = refl
given_level before after (Some thread) e = e

given_awaits : (before after : ℕ) (x : Option Thread) → awaited (option_map (λ (a : Thread). with_priority before (with_priority after a)) x) ≡ awaited x
given_awaits before after None = refl
given_awaits before after (Some thread) = refl

given_most : (before after : ℕ) (x : Option Thread) → before ≡ level_of x → before ≤ after → before ≤ level_of (option_map (with_priority after) x)
given_most before after None e le = omega (arith, e)
given_most before after (Some thread) e le = le

-- the stored priorities are those of before the assignment
pub assignment_before : (p t before after : ℕ) (table table' : ThreadTable) (lines : List (List ℕ)) (mutexes : List (List (Option Mutex))) → AreReadyBy p table lines mutexes → before ≡ assigned_of (part_of table.threads p) t → before ≤ after
    → table' ≡ with_changed p t (with_priority after) table → IsBeforeAssignment t (part_of table'.threads p) (part_of mutexes p) (part_of table'.stored p)
assignment_before p t before after table table' lines mutexes ready e le f =
    let threads : List (Option Thread) = part_of table.threads p in
    let there : part_of table'.threads p ≡ pool_changed t (with_priority after) threads = ap (λ (l : ThreadTable). part_of l.threads p) f ∙ part_of-set table.threads p (pool_changed t (with_priority after) threads) ready.part.of_threads in
    let stored : part_of table'.stored p ≡ part_of table.stored p = ap (λ (l : ThreadTable). part_of l.stored p) f in
    let level : assigned_of (part_of table'.threads p) t ≡ level_of (option_map (with_priority after) (pool_get threads t)) = ap (λ l. assigned_of l t) there ∙ ap level_of (changed_own t (with_priority after) threads) in
    let most : before ≤ level_of (option_map (with_priority after) (pool_get threads t)) = given_most before after (pool_get threads t) e le in (
      before,
      omega (arith, level, most),
      stored ∙ ready.stored
          ∙ sym (ap (λ l. effective_priorities (pool_changed t (with_priority before) l) (part_of mutexes p)) there
          ∙ ap (λ l. effective_priorities l (part_of mutexes p)) (changed_twice t (with_priority before) (with_priority after) threads)
          ∙ effective_thread t (λ a. with_priority before (with_priority after a)) threads (part_of mutexes p) (given_level before after (pool_get threads t) e) (given_awaits before after (pool_get threads t))),
    )

-- ---- what was read

-- the priorities that are stored then
pub stored_visited : (p visited : ℕ) (table table' new : ThreadTable) → table'.stored ≡ table.stored → IsVisited visited (part_of table'.stored p) (part_of new.stored p) → IsVisited visited (part_of table.stored p) (part_of new.stored p)
stored_visited p visited table table' new same read = subst (λ l. IsVisited visited (part_of l p) (part_of new.stored p)) same read

-- ---- a re-lock is the move, and then the thread is woken unless it waits

pub relock_wakes : (made : LockMove) (t m : ℕ) (reply : Option ℕ) (locks : Locks) → is_waiting made ≡ false → after_relock_move made t m reply locks ≡ after_wake t (option_to_list (move_reply made reply)) (after_move made t m (RelockWait m reply) locks)
relock_wakes Takes t m reply locks e = refl
relock_wakes Recovers t m reply locks e = refl
relock_wakes Counts t m reply locks e = refl
relock_wakes Waits t m reply locks e = cc
relock_wakes (Refuses error) t m reply locks e = refl

-- a move that is no wait leaves the threads
pub move_threads : (made : LockMove) (t m : ℕ) (wait : Wait) (locks : Locks) → is_waiting made ≡ false → (after_move made t m wait locks).threads ≡ locks.threads
move_threads Takes t m wait locks e = refl
move_threads Recovers t m wait locks e = refl
move_threads Counts t m wait locks e = refl
move_threads Waits t m wait locks e = cc
move_threads (Refuses error) t m wait locks e = refl

woken_level : (values : List ℕ) (x : Option Thread) → level_of (option_map (woken_with values) x) ≡ level_of x
woken_level values None = refl
woken_level values (Some thread) = refl

-- a thread that waits for no mutex is woken, and no priority changes
pub wake_stored : (p t : ℕ) (values : List ℕ) (table : ThreadTable) (locks : Locks) → p < length table.threads → awaited (thread_at locks t) ≡ None
    → with_changed p t (woken_with values) (with_threads p locks table) ≡ with_threads p (after_wake t values locks) table
wake_stored p t values table locks lt none =
    let same : effective_priorities (pool_changed t (woken_with values) locks.threads) locks.mutexes ≡ effective_priorities locks.threads locks.mutexes =
    effective_thread t (woken_with values) locks.threads locks.mutexes (woken_level values (thread_at locks t)) (woken_awaits values (thread_at locks t) none) in
    rw (same, part_of-set table.threads p locks.threads lt, set-set) refl

-- so behind a move the roster is as the waking leaves it
pub wake_put : (p t : ℕ) (values : List ℕ) (a b after : Rostered) (locks : Locks) → HasPartBy p a.table a.lines a.mutexes → awaited (thread_at locks t) ≡ None → b ≡ put_locks p locks a
    → after ≡ record b { table = with_changed p t (woken_with values) b.table; lines = set b.lines p (part_of b.lines p ++ t ∷ []) } → after ≡ put_locks p (after_wake t values locks) a
wake_put p t values a b after locks has none moved woken =
    let line : set (set a.lines p locks.line) p (part_of (set a.lines p locks.line) p ++ t ∷ []) ≡ set a.lines p (locks.line ++ t ∷ []) = rw (part_of-set a.lines p locks.line has.of_lines, set-set) refl in
    woken ∙ ap (λ (r : Rostered). record r { table = with_changed p t (woken_with values) r.table; lines = set r.lines p (part_of r.lines p ++ t ∷ []) }) moved
    ∙ (λ i. record a { table = wake_stored p t values a.table locks has.of_threads none i; lines = line i; mutexes = set a.mutexes p locks.mutexes })
