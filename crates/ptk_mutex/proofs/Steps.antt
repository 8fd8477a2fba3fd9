-- Several moves of one partition, one after the other.
use Rattle.std.specs.Fn.{iterate}
use Rattle.std.specs.Prelude.{fold, suc}
use Rattle.std.proofs.lemmas.List.Sums.{fold-append}
use Rattle.ptk_words.specs.Pools.{numbers_to, pool_changed}
use Rattle.ptk_words.specs.declared.threads.Thread.{Thread}
use Rattle.ptk_words_model.specs.Mutex.{after_mutex_end}
use Rattle.std.proofs.Common.{◌≡◌, ℕ, ◌+◌, ◌<◌, List, [], ◌∷◌, length, refl, sym, ◌∙◌, ap, subst, arith}
use Rattle.std.specs.Prelude.{Option, Some, None}
use Rattle.std.proofs.Math.ListN.{set}
use Rattle.std.proofs.lemmas.List.{length-set, set-set}
use Rattle.ptk_words.specs.declared.TheConstants.{COUNT_LIMIT}
use Rattle.ptk_words.specs.Parts.{part_of}
use Rattle.ptk_words.proofs.Cuts.{set_part-same}
use Rattle.ptk_words_model.specs.declared.LockMove.{LockMove}
use Rattle.ptk_words_model.specs.State.{Mutex, Locks}
use Rattle.ptk_words_model.specs.Priority.{effective_priorities}
use Rattle.ptk_words_model.specs.Mutex.{mutex_at, with_mutex, soundness_of, free_move, handed, heir, after_take, after_hand_over_to, after_hand_over, after_refusal_to, after_refusal}
use Rattle.ptk_words_model.specs.declared.LockMove.TheVariants.{Takes, Recovers, Counts, Waits, Refuses}
use Rattle.ptk_words.specs.declared.faults.Errno.{Errno}
use Rattle.ptk_words.specs.declared.faults.Errno.TheVariants.{EAGAIN, EBUSY, EINVAL, ENOTRECOVERABLE}
use Rattle.ptk_words.specs.declared.mutexes.MutexKind.{MutexKind}
use Rattle.ptk_words.specs.declared.mutexes.MutexKind.TheVariants.{Normal, ErrorCheck, Recursive}
use Rattle.ptk_words.specs.declared.mutexes.Soundness.{Soundness}
use Rattle.ptk_words.specs.declared.mutexes.Soundness.TheVariants.{Consistent, Inconsistent, Unrecoverable}
use Rattle.ptk_words.specs.declared.mutexes.Owner.{Owner}
use Rattle.ptk_words.specs.declared.mutexes.Owner.TheVariants.{Free, Abandoned, OwnedBy}
use Rattle.ptk_words.specs.declared.threads.Wait.{Wait}
use Rattle.std.proofs.Common.{Bool, true, false}
use Rattle.std.specs.Prelude.{nat_lt, ◌==◌, if◌then◌else◌}
use Rattle.std.proofs.lemmas.Bool.{ltb-true}
use Rattle.ptk_words_model.specs.Priority.{assigned_priority}
use Rattle.ptk_words.specs.Threads.{mutex_of_wait}
use Rattle.ptk_words_model.specs.Mutex.{count_of, own_lock_move, own_trylock_move, owner_move, is_above_ceiling, lock_move, trylock_move, after_move}
use Rattle.ptk_mutex.specs.Tables.{MayWait}
use Rattle.ptk_mutex.proofs.Locked.{locked_wait, locked_count, locked_wake}
use Rattle.std.specs.Prelude.{option_to_list}
use Rattle.ptk_words.specs.declared.threads.Wait.TheVariants.{RelockWait}
use Rattle.ptk_words_model.specs.Schedule.{with_thread, woken_with}
use Rattle.ptk_words_model.specs.Mutex.{move_reply, after_count, after_relock_move}
use Rattle.ptk_threads.specs.Table.{ThreadTable, with_changed}
use Rattle.ptk_threads.proofs.Pools.{part_of-set}
use Rattle.ptk_roster.specs.declared.slot.Change.{Change}
use Rattle.ptk_roster.specs.declared.slot.Change.TheVariants.{Take, CountUp, CountDown, Release, Abandon, Mark}
use Rattle.ptk_roster.specs.Changes.{mutex_changed, IsQuiet}
use Rattle.ptk_roster.specs.Rosters.{Rostered}
use Rattle.ptk_mutex.specs.Rosters.{with_priorities}
use Rattle.ptk_mutex.specs.Tables.{locks_by, put_locks, put_locks_alone, with_threads, HasPartBy, AreLocked, AreReadyBy, IsWaiter, MayGet}
use Rattle.ptk_mutex.specs.Moves.{after_change}
use Rattle.ptk_mutex.proofs.Locked.{IsMild, locked_mild, locked_left, heir_may_get}
use Rattle.ptk_mutex.proofs.Moved.{stays}
use Rattle.ptk_mutex.proofs.NoWaiters.{changed_waiters}

-- the tables are the first ones with these locks at p
pub record AreMoved (p : ℕ) (table : ThreadTable) (lines : List (List ℕ)) (mutexes : List (List (Option Mutex))) (table' : ThreadTable) (lines' : List (List ℕ)) (mutexes' : List (List (Option Mutex))) (locks : Locks) : Type 0 where
  pub of_threads : table' ≡ with_threads p locks table
  pub of_lines : lines' ≡ set lines p locks.line
  pub of_mutexes : mutexes' ≡ set mutexes p locks.mutexes

-- so they are of the roster with these locks at p
pub put_moved : (p : ℕ) (a b : Rostered) (locks : Locks) → b ≡ put_locks p locks a → AreMoved p a.table a.lines a.mutexes b.table b.lines b.mutexes locks
put_moved p a b locks e = record { of_threads = ap (λ (r : Rostered). r.table) e; of_lines = ap (λ (r : Rostered). r.lines) e; of_mutexes = ap (λ (r : Rostered). r.mutexes) e }

-- nothing moved yet
pub put_none : (p : ℕ) (a : Rostered) → AreReadyBy p a.table a.lines a.mutexes → a ≡ put_locks p (locks_by p a.table a.lines a.mutexes) a
put_none p a ready =
    let table : a.table ≡ with_threads p (locks_by p a.table a.lines a.mutexes) a.table = sym (stays p a.table a.lines a.mutexes ready) in
    λ i. record a { table = table i; lines = sym (set_part-same a.lines p) i; mutexes = sym (set_part-same a.mutexes p) i }

has_moved : (p : ℕ) (table : ThreadTable) (lines : List (List ℕ)) (mutexes : List (List (Option Mutex))) (locks : Locks) → HasPartBy p table lines mutexes → HasPartBy p (with_threads p locks table) (set lines p locks.line) (set mutexes p locks.mutexes)
has_moved p table lines mutexes locks has = record {
  of_threads = rw length-set has.of_threads;
  of_stored = rw length-set has.of_stored;
  of_lines = rw length-set has.of_lines;
  of_mutexes = rw length-set has.of_mutexes;
}

locks_put : (p : ℕ) (table : ThreadTable) (lines : List (List ℕ)) (mutexes : List (List (Option Mutex))) (locks : Locks) → HasPartBy p table lines mutexes → locks_by p (with_threads p locks table) (set lines p locks.line) (set mutexes p locks.mutexes) ≡ locks
locks_put p table lines mutexes locks has =
    rw (part_of-set table.threads p locks.threads has.of_threads, part_of-set lines p locks.line has.of_lines, part_of-set mutexes p locks.mutexes has.of_mutexes) refl

-- what p then has
pub moved_locks : (p : ℕ) (table table' : ThreadTable) (lines lines' : List (List ℕ)) (mutexes mutexes' : List (List (Option Mutex))) (locks : Locks) → HasPartBy p table lines mutexes → AreMoved p table lines mutexes table' lines' mutexes' locks → locks_by p table' lines' mutexes' ≡ locks
moved_locks p table table' lines lines' mutexes mutexes' locks has moved =
    rw (moved.of_threads, moved.of_lines, moved.of_mutexes) (locks_put p table lines mutexes locks has)

pub moved_has : (p : ℕ) (table table' : ThreadTable) (lines lines' : List (List ℕ)) (mutexes mutexes' : List (List (Option Mutex))) (locks : Locks) → HasPartBy p table lines mutexes → AreMoved p table lines mutexes table' lines' mutexes' locks → HasPartBy p table' lines' mutexes'
moved_has p table table' lines lines' mutexes mutexes' locks has moved =
    rw (moved.of_threads, moved.of_lines, moved.of_mutexes) (has_moved p table lines mutexes locks has)

stored_put : (p : ℕ) (table : ThreadTable) (mutexes : List (List (Option Mutex))) (locks : Locks) → p < length table.threads → p < length table.stored → p < length mutexes
    → part_of (set table.stored p (effective_priorities locks.threads locks.mutexes)) p ≡ effective_priorities (part_of (set table.threads p locks.threads) p) (part_of (set mutexes p locks.mutexes) p)
stored_put p table mutexes locks t s m = rw (part_of-set table.stored p (effective_priorities locks.threads locks.mutexes) s, part_of-set table.threads p locks.threads t, part_of-set mutexes p locks.mutexes m) refl

-- moved tables are ready again
pub moved_ready : (p : ℕ) (table table' : ThreadTable) (lines lines' : List (List ℕ)) (mutexes mutexes' : List (List (Option Mutex))) (locks : Locks) → HasPartBy p table lines mutexes → AreLocked locks → AreMoved p table lines mutexes table' lines' mutexes' locks → AreReadyBy p table' lines' mutexes'
moved_ready p table table' lines lines' mutexes mutexes' locks has locked moved = record {
  part = moved_has p table table' lines lines' mutexes mutexes' locks has moved;
  locked = subst (λ (l : Locks). AreLocked l) (sym (moved_locks p table table' lines lines' mutexes mutexes' locks has moved)) locked;
  stored = rw (moved.of_threads, moved.of_mutexes) (stored_put p table mutexes locks has.of_threads has.of_stored has.of_mutexes);
}

pub put_ready : (p : ℕ) (a b : Rostered) (locks : Locks) → HasPartBy p a.table a.lines a.mutexes → AreLocked locks → b ≡ put_locks p locks a → AreReadyBy p b.table b.lines b.mutexes
put_ready p a b locks has locked e = moved_ready p a.table b.table a.lines b.lines a.mutexes b.mutexes locks has locked (put_moved p a b locks e)

put_has : (p : ℕ) (a b : Rostered) (locks : Locks) → HasPartBy p a.table a.lines a.mutexes → b ≡ put_locks p locks a → locks_by p b.table b.lines b.mutexes ≡ locks
put_has p a b locks has e = moved_locks p a.table b.table a.lines b.lines a.mutexes b.mutexes locks has (put_moved p a b locks e)

put_twice : (p : ℕ) (locks more : Locks) (a : Rostered) → put_locks p more (put_locks p locks a) ≡ put_locks p more a
put_twice p locks more a = rw (set-set, set-set, set-set, set-set) refl

-- one more move
pub put_more : (p : ℕ) (f : Locks → Locks) (a b after : Rostered) (locks : Locks) → HasPartBy p a.table a.lines a.mutexes → b ≡ put_locks p locks a → after ≡ put_locks p (f (locks_by p b.table b.lines b.mutexes)) b → after ≡ put_locks p (f locks) a
put_more p f a b after locks has e more = more ∙ ap (λ (l : Locks). put_locks p (f l) b) (put_has p a b locks has e) ∙ ap (put_locks p (f locks)) e ∙ put_twice p locks (f locks) a

-- ---- a move that stores no priority, and the effective ones stored behind it

-- a mutex changed
pub mutex_alone : (p m : ℕ) (f : Mutex → Mutex) (a b : Rostered) → b ≡ record a { mutexes = set a.mutexes p (pool_changed m f (part_of a.mutexes p)) } → b ≡ put_locks_alone p (with_mutex m f (locks_by p a.table a.lines a.mutexes)) a
mutex_alone p m f a b e =
    e ∙ (λ i. record a { table = record a.table { threads = sym (set_part-same a.table.threads p) i }; lines = sym (set_part-same a.lines p) i; mutexes = set a.mutexes p (pool_changed m f (part_of a.mutexes p)) })

-- a thread changed
pub thread_alone : (p t : ℕ) (f : Thread → Thread) (a b : Rostered) → b ≡ record a { table = with_changed p t f a.table } → b ≡ put_locks_alone p (with_thread t f (locks_by p a.table a.lines a.mutexes)) a
thread_alone p t f a b e = e ∙ (λ i. record a { table = with_changed p t f a.table; lines = sym (set_part-same a.lines p) i; mutexes = sym (set_part-same a.mutexes p) i })

alone_twice : (p : ℕ) (locks more : Locks) (a : Rostered) → put_locks_alone p more (put_locks_alone p locks a) ≡ put_locks_alone p more a
alone_twice p locks more a = rw (set-set, set-set, set-set) refl

-- one more such move
pub alone_more : (p : ℕ) (f : Locks → Locks) (a b after : Rostered) (locks : Locks) → HasPartBy p a.table a.lines a.mutexes → b ≡ put_locks_alone p locks a → after ≡ put_locks_alone p (f (locks_by p b.table b.lines b.mutexes)) b → after ≡ put_locks_alone p (f locks) a
alone_more p f a b after locks has e more =
    let here : locks_by p b.table b.lines b.mutexes ≡ locks = ap (λ (r : Rostered). locks_by p r.table r.lines r.mutexes) e ∙ locks_put p a.table a.lines a.mutexes locks has in
    more ∙ ap (λ (l : Locks). put_locks_alone p (f l) b) here ∙ ap (put_locks_alone p (f locks)) e ∙ alone_twice p locks (f locks) a

-- with the effective priorities stored it is the move
pub refreshed_put : (p : ℕ) (a b after : Rostered) (locks : Locks) → HasPartBy p a.table a.lines a.mutexes → b ≡ put_locks_alone p locks a → after ≡ with_priorities p (effective_priorities (part_of b.table.threads p) (part_of b.mutexes p)) b → after ≡ put_locks p locks a
refreshed_put p a b after locks has e stored =
    let there : part_of (set a.table.threads p locks.threads) p ≡ locks.threads = part_of-set a.table.threads p locks.threads has.of_threads in
    let here : part_of (set a.mutexes p locks.mutexes) p ≡ locks.mutexes = part_of-set a.mutexes p locks.mutexes has.of_mutexes in
    stored ∙ ap (λ (r : Rostered). with_priorities p (effective_priorities (part_of r.table.threads p) (part_of r.mutexes p)) r) e
    ∙ (λ i. with_priorities p (effective_priorities (there i) (here i)) (put_locks_alone p locks a))

-- ---- what each move leaves

mild_quiet : (change : Change) → IsQuiet change → IsMild (mutex_changed change)
mild_quiet (Take t) quiet = record { waiters = λ k x h. h; counts = λ x le. omega arith }
mild_quiet CountUp quiet = absurd quiet
mild_quiet CountDown quiet = record { waiters = λ k x h. h; counts = λ x le. omega arith }
mild_quiet Release quiet = record { waiters = λ k x h. h; counts = λ x le. omega arith }
mild_quiet Abandon quiet = record { waiters = λ k x h. h; counts = λ x le. le }
mild_quiet (Mark soundness) quiet = record { waiters = λ k x h. h; counts = λ x le. le }

-- a quiet change
pub locked_change : (change : Change) (m : ℕ) (locks : Locks) → IsQuiet change → AreLocked locks → AreLocked (after_change change m locks)
locked_change change m locks quiet locked = locked_mild m (mutex_changed change) locks (mild_quiet change quiet) locked

-- who waits does so while the mutex gets its next owner
pub taken_waiter : (t m : ℕ) (locks : Locks) → IsWaiter locks m t → IsWaiter (after_take t m locks) m t
taken_waiter t m locks waiter = record { waits = waiter.waits; out = waiter.out; inside = rw (changed_waiters m m (mutex_changed (Take t)) locks.mutexes (λ x. refl)) waiter.inside }

hand_to_locked : (m : ℕ) (next : Option ℕ) (locks : Locks) → MayGet next locks m → AreLocked locks → AreLocked (after_hand_over_to next m locks)
hand_to_locked m None locks may locked = locked_change Release m locks tt locked
hand_to_locked m (Some t) locks may locked =
    locked_left m t (handed (free_move (soundness_of (mutex_at locks m)))) (after_take t m locks) (taken_waiter t m locks may) (locked_change (Take t) m locks tt locked)

-- a hand over
pub locked_hand_over : (m : ℕ) (locks : Locks) → AreLocked locks → AreLocked (after_hand_over m locks)
locked_hand_over m locks locked = hand_to_locked m (heir m locks) locks (heir_may_get m locks (heir m locks) locked refl) locked

refuse_to_locked : (m : ℕ) (next : Option ℕ) (locks : Locks) → MayGet next locks m → AreLocked locks → AreLocked (after_refusal_to next m locks)
refuse_to_locked m None locks may locked = locked
refuse_to_locked m (Some t) locks may locked = locked_left m t (handed (Refuses ENOTRECOVERABLE)) locks may locked

-- a refusal
pub locked_refusal : (m : ℕ) (locks : Locks) → AreLocked locks → AreLocked (after_refusal m locks)
locked_refusal m locks locked = refuse_to_locked m (heir m locks) locks (heir_may_get m locks (heir m locks) locked refl) locked

-- ---- all waiters refused, one after the other

-- so many refusals are left of all
pub record AreRefused (p m left total : ℕ) (a b : Rostered) : Type 0 where
  pub ready : AreReadyBy p b.table b.lines b.mutexes
  pub moved : b ≡ put_locks p (locks_by p b.table b.lines b.mutexes) a
  pub same : iterate (after_refusal m) left (locks_by p b.table b.lines b.mutexes) ≡ iterate (after_refusal m) total (locks_by p a.table a.lines a.mutexes)

pub refused_none : (p m left total : ℕ) (a : Rostered) → left ≡ total → AreReadyBy p a.table a.lines a.mutexes → AreRefused p m left total a a
refused_none p m left total a e ready = record { ready = ready; moved = put_none p a ready; same = ap (λ (n : ℕ). iterate (after_refusal m) n (locks_by p a.table a.lines a.mutexes)) e }

pub refused_more : (p m left rest total : ℕ) (a b after : Rostered) → HasPartBy p a.table a.lines a.mutexes → rest ≡ suc left → AreRefused p m rest total a b → after ≡ put_locks p (after_refusal m (locks_by p b.table b.lines b.mutexes)) b
    → AreReadyBy p after.table after.lines after.mutexes → AreRefused p m left total a after
refused_more p m left rest total a b after has e refused more ready =
    let now : Locks = locks_by p b.table b.lines b.mutexes in
    let at : locks_by p after.table after.lines after.mutexes ≡ after_refusal m now = put_has p b after (after_refusal m now) refused.ready.part more in
    record {
      ready = ready;
      moved = put_more p (after_refusal m) a b after now has refused.moved more ∙ ap (λ (l : Locks). put_locks p l a) (sym at);
      same = ap (iterate (after_refusal m) left) at ∙ ap (λ (n : ℕ). iterate (after_refusal m) n now) (sym e) ∙ refused.same;
    }

-- ---- all mutexes of an owner that ended

-- what the end makes of mutex m
abbrev pub end_of : ℕ → Locks → ℕ → Locks
end_of t locks m = after_mutex_end t (mutex_at locks m) m locks

-- once the mutexes 1 to k have been seen
pub record AreEnded (p t k : ℕ) (a b : Rostered) : Type 0 where
  pub ready : AreReadyBy p b.table b.lines b.mutexes
  pub moved : b ≡ put_locks p (fold (end_of t) (locks_by p a.table a.lines a.mutexes) (numbers_to k)) a

pub ended_more : (p t k m : ℕ) (a b after : Rostered) → HasPartBy p a.table a.lines a.mutexes → m ≡ k + 1 → AreEnded p t k a b → after ≡ put_locks p (end_of t (locks_by p b.table b.lines b.mutexes) m) b
    → AreReadyBy p after.table after.lines after.mutexes → AreEnded p t (k + 1) a after
ended_more p t k m a b after has e ended more ready =
    let locks : Locks = locks_by p a.table a.lines a.mutexes in
    let was : Locks = fold (end_of t) locks (numbers_to k) in
    let number : m ≡ suc k = omega (arith, e) in
    let moved : after ≡ put_locks p (end_of t was m) a = put_more p (λ (l : Locks). end_of t l m) a b after was has ended.moved more in
    let all : fold (end_of t) locks (numbers_to (suc k)) ≡ end_of t was m = fold-append (end_of t) locks (numbers_to k) (suc k ∷ []) ∙ ap (end_of t was) (sym number) in
    let one : k + 1 ≡ suc k = omega arith in
    rw one (record { ready = ready; moved = moved ∙ ap (λ (l : Locks). put_locks p l a) (sym all) })

-- ---- a lock

count_counts : (n : ℕ) (b : Bool) → nat_lt n COUNT_LIMIT ≡ b → (if b then Counts else Refuses EAGAIN) ≡ Counts → n < COUNT_LIMIT
count_counts n true lt e = ltb-true n COUNT_LIMIT lt
count_counts n false lt e = let no : ⊥ = cc in absurd no

own_lock_counts : (kind : MutexKind) (n : ℕ) → own_lock_move kind n ≡ Counts → n < COUNT_LIMIT
own_lock_counts Normal n e = let no : ⊥ = cc in absurd no
own_lock_counts ErrorCheck n e = let no : ⊥ = cc in absurd no
own_lock_counts Recursive n e = count_counts n (nat_lt n COUNT_LIMIT) refl e

own_trylock_counts : (kind : MutexKind) (n : ℕ) → own_trylock_move kind n ≡ Counts → n < COUNT_LIMIT
own_trylock_counts Normal n e = let no : ⊥ = cc in absurd no
own_trylock_counts ErrorCheck n e = let no : ⊥ = cc in absurd no
own_trylock_counts Recursive n e = count_counts n (nat_lt n COUNT_LIMIT) refl e

free_counts : (soundness : Soundness) (n : ℕ) → free_move soundness ≡ Counts → n < COUNT_LIMIT
free_counts Consistent n e = let no : ⊥ = cc in absurd no
free_counts Inconsistent n e = let no : ⊥ = cc in absurd no
free_counts Unrecoverable n e = let no : ⊥ = cc in absurd no

either_counts : (b : Bool) (own another : LockMove) (n : ℕ) → (own ≡ Counts → n < COUNT_LIMIT) → (another ≡ Counts → n < COUNT_LIMIT) → (if b then own else another) ≡ Counts → n < COUNT_LIMIT
either_counts true own another n first second e = first e
either_counts false own another n first second e = second e

owner_counts : (owner : Owner) (t n : ℕ) (free own another : LockMove) → (free ≡ Counts → n < COUNT_LIMIT) → (own ≡ Counts → n < COUNT_LIMIT) → (another ≡ Counts → n < COUNT_LIMIT)
    → owner_move owner t (record { of_free = free; of_own = own; of_another = another }) ≡ Counts → n < COUNT_LIMIT
owner_counts Free t n free own another first second third e = first e
owner_counts Abandoned t n free own another first second third e = third e
owner_counts (OwnedBy u) t n free own another first second third e = either_counts (u == t) own another n second third e

refused_counts : (error : Errno) (n : ℕ) → Refuses error ≡ Counts → n < COUNT_LIMIT
refused_counts error n e = let no : ⊥ = cc in absurd no

waits_counts : (n : ℕ) → Waits ≡ Counts → n < COUNT_LIMIT
waits_counts n e = let no : ⊥ = cc in absurd no

-- a lock counts up only below the limit
pub lock_counts : (locks : Locks) (t : ℕ) (x : Option Mutex) → lock_move locks t x ≡ Counts → count_of x < COUNT_LIMIT
lock_counts locks t None e = refused_counts EINVAL 0 e
lock_counts locks t (Some m) e =
    either_counts (is_above_ceiling (assigned_priority locks t) m.protocol) (Refuses EINVAL) _ m.count (refused_counts EINVAL m.count)
    (owner_counts m.owner t m.count (free_move m.soundness) (own_lock_move m.kind m.count) Waits (free_counts m.soundness m.count) (own_lock_counts m.kind m.count) (waits_counts m.count)) e

-- a trylock counts up only below the limit
pub trylock_counts : (locks : Locks) (t : ℕ) (x : Option Mutex) → trylock_move locks t x ≡ Counts → count_of x < COUNT_LIMIT
trylock_counts locks t None e = refused_counts EINVAL 0 e
trylock_counts locks t (Some m) e =
    either_counts (is_above_ceiling (assigned_priority locks t) m.protocol) (Refuses EINVAL) _ m.count (refused_counts EINVAL m.count)
    (owner_counts m.owner t m.count (free_move m.soundness) (own_trylock_move m.kind m.count) (Refuses EBUSY) (free_counts m.soundness m.count) (own_trylock_counts m.kind m.count) (refused_counts EBUSY m.count)) e

-- a move of one that may wait
pub locked_move : (made : LockMove) (t m : ℕ) (wait : Wait) (locks : Locks) → (made ≡ Counts → count_of (mutex_at locks m) < COUNT_LIMIT) → mutex_of_wait (Some wait) ≡ Some m → MayWait locks t → AreLocked locks → AreLocked (after_move made t m wait locks)
locked_move Takes t m wait locks room names may locked = locked_change (Take t) m locks tt locked
locked_move Recovers t m wait locks room names may locked = locked_change (Take t) m locks tt locked
locked_move Counts t m wait locks room names may locked = locked_count m locks (room refl) locked
locked_move Waits t m wait locks room names may locked = locked_wait t m wait locks names may.awake may.used may.out locked
locked_move (Refuses e) t m wait locks room names may locked = locked

-- a re-lock of one that may wait
pub locked_relock : (made : LockMove) (t m : ℕ) (reply : Option ℕ) (locks : Locks) → (made ≡ Counts → count_of (mutex_at locks m) < COUNT_LIMIT) → MayWait locks t → AreLocked locks → AreLocked (after_relock_move made t m reply locks)
locked_relock Takes t m reply locks room may locked = locked_wake t (woken_with (option_to_list (move_reply Takes reply))) (after_take t m locks) may.awake (locked_change (Take t) m locks tt locked)
locked_relock Recovers t m reply locks room may locked = locked_wake t (woken_with (option_to_list (move_reply Recovers reply))) (after_take t m locks) may.awake (locked_change (Take t) m locks tt locked)
locked_relock Counts t m reply locks room may locked = locked_wake t (woken_with (option_to_list (move_reply Counts reply))) (after_count m locks) may.awake (locked_count m locks (room refl) locked)
locked_relock Waits t m reply locks room may locked = locked_wait t m (RelockWait m reply) locks refl may.awake may.used may.out locked
locked_relock (Refuses e) t m reply locks room may locked = locked_wake t (woken_with (option_to_list (move_reply (Refuses e) reply))) locks may.awake locked
