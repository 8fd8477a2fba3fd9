-- That each call keeps what the calls ask of the roster, at every partition, and that a fresh roster has it.
use Rattle.std.proofs.Common.{◌≡◌, ◌≢◌, ℕ, ◌<◌, List, [], length, map, replicate, refl, sym, ◌∙◌, ap, subst, true, false, ◌⊎◌, inl, inr}
use Rattle.std.specs.Prelude.{Bool, Option, Some, None, option_map, unwrap_or, slice_index}
use Rattle.std.proofs.Math.ListN.{set}
use Rattle.std.proofs.lemmas.Bool.{cases_eq}
use Rattle.std.proofs.lemmas.List.{length-set, length-map, length-replicate}
use Rattle.ptk_words.specs.Pools.{pool_get, pool_set, is_in, least_free, numbers_of}
use Rattle.ptk_words.specs.declared.threads.Thread.{Thread}
use Rattle.ptk_words.specs.declared.threads.Wait.{Wait}
use Rattle.ptk_words.specs.declared.mutexes.MutexKind.{MutexKind}
use Rattle.ptk_words.specs.declared.mutexes.Protocol.{Protocol}
use Rattle.ptk_words.specs.declared.mutexes.Soundness.{Soundness}
use Rattle.ptk_words.specs.Parts.{part_of, filled}
use Rattle.ptk_words.proofs.Cuts.{set_part-same}
use Rattle.ptk_words_model.specs.declared.LockMove.{LockMove}
use Rattle.ptk_words_model.specs.declared.LockMove.TheVariants.{Counts}
use Rattle.ptk_words_model.specs.State.{Condition, Locks, Mutex, Syncs}
use Rattle.ptk_words_model.specs.Priority.{effective_priorities}
use Rattle.ptk_words_model.specs.Mutex.{mutex_at, new_mutex, owns, waiters_of, with_soundness, after_free, after_move, after_owner_end, after_relock, after_take, after_unlock}
use Rattle.ptk_words_model.specs.MutexCalls.{is_locked}
use Rattle.ptk_words_model.specs.Condition.{waiters_on}
use Rattle.ptk_words_sync_invariant.specs.Conditions.{IsNoWaiter}
use Rattle.ptk_threads.specs.Table.{free_table}
use Rattle.ptk_threads.proofs.Pools.{part_of-set, part_of-set_other}
use Rattle.ptk_roster.specs.Rosters.{Rostered, seen}
use Rattle.ptk_roster.specs.Plain.{is_raising_at}
use Rattle.ptk_mutex.specs.Moves.{after_assignment, after_withdrawal}
use Rattle.ptk_mutex.specs.Pool.{with_new_mutex}
use Rattle.ptk_mutex.specs.Rosters.{with_priorities}
use Rattle.ptk_mutex.specs.Tables.{put_locks, IsWaiter, AreReadyBy}
use Rattle.ptk_mutex.specs.Sound.{syncs_by, put_syncs, AreWaiting, AreSyncedBy, IsSound}
use Rattle.ptk_mutex.proofs.Apart.{IsApart, apart_closed, apart_ends, apart_free, apart_made, apart_opened, apart_relock, apart_soundness, apart_take, apart_unlock, apart_withdrawal, other_waiter, waiting_assigned, waiting_kept}
use Rattle.ptk_mutex.proofs.Unraised.{ready_freed, ready_taken}
use Rattle.ptk_mutex.proofs.Ready.{pool_blank, ready_blank, ready_destroy, ready_init, row_blank}
use Rattle.ptk_mutex.proofs.Steps.{AreMoved, moved_locks}

-- ---- what a partition has

abbrev pub of_part : ℕ → Rostered → Syncs
of_part p a = syncs_by p a.table a.lines a.mutexes a.conditions

-- the mutex calls, and all calls, find it as they need it at a partition
abbrev pub AreReadyAt : ℕ → Rostered → Type 0
AreReadyAt p a = AreReadyBy p a.table a.lines a.mutexes

abbrev pub AreSyncedAt : ℕ → Rostered → Type 0
AreSyncedAt p a = AreSyncedBy p a.table a.lines a.mutexes a.conditions

-- what the tables of the mutex calls are with these syncs at p
pub put_locked : (p : ℕ) (a b : Rostered) (syncs : Syncs) → b ≡ put_syncs p syncs a → AreMoved p a.table a.lines a.mutexes b.table b.lines b.mutexes syncs.locks
put_locked p a b syncs e = record { of_threads = ap (λ (r : Rostered). r.table) e; of_lines = ap (λ (r : Rostered). r.lines) e; of_mutexes = ap (λ (r : Rostered). r.mutexes) e }

put_conditions : (p : ℕ) (a b : Rostered) (syncs : Syncs) → b ≡ put_syncs p syncs a → b.conditions ≡ set a.conditions p syncs.conditions
put_conditions p a b syncs e = ap (λ (r : Rostered). r.conditions) e

-- what p then has
pub syncs_put : (p : ℕ) (a b : Rostered) (syncs : Syncs) → AreSyncedAt p a → b ≡ put_syncs p syncs a → of_part p b ≡ syncs
syncs_put p a b syncs synced e =
    rw (moved_locks p a.table b.table a.lines b.lines a.mutexes b.mutexes syncs.locks synced.ready.part (put_locked p a b syncs e), put_conditions p a b syncs e, part_of-set a.conditions p syncs.conditions synced.of_conditions) refl

-- such a roster is as the calls need it, where the mutex calls find it so and waiters wait
pub put_synced : (p : ℕ) (a b : Rostered) (syncs : Syncs) → AreSyncedAt p a → b ≡ put_syncs p syncs a → AreReadyAt p b → AreWaiting syncs → AreSyncedAt p b
put_synced p a b syncs synced e ready waiting = record {
  ready = ready;
  of_conditions = rw (put_conditions p a b syncs e, length-set) synced.of_conditions;
  waiting = subst (λ (s : Syncs). AreWaiting s) (sym (syncs_put p a b syncs synced e)) waiting;
}

-- ---- the other partitions

-- the list of b has as many parts as that of a, and every other part than p is the same
record IsElsewhere {X : Type 0} (p : ℕ) (xs ys : List (List X)) : Type 0 where
  long : length ys ≡ length xs
  same : (q : ℕ) → q ≢ p → part_of ys q ≡ part_of xs q

elsewhere_set : {X : Type 0} (p : ℕ) (xs ys : List (List X)) (row : List X) → ys ≡ set xs p row → IsElsewhere p xs ys
elsewhere_set p xs ys row e = record {
  long = rw (e, length-set) refl;
  same = λ q ne. rw e (part_of-set_other xs p q row ne);
}

record IsOtherwise (p : ℕ) (a b : Rostered) : Type 0 where
  threads : IsElsewhere p a.table.threads b.table.threads
  stored : IsElsewhere p a.table.stored b.table.stored
  lines : IsElsewhere p a.lines b.lines
  mutexes : IsElsewhere p a.mutexes b.mutexes
  conditions : IsElsewhere p a.conditions b.conditions

synced_other : (p q : ℕ) (a b : Rostered) → q ≢ p → IsOtherwise p a b → AreSyncedAt q a → AreSyncedAt q b
synced_other p q a b ne other synced =
    let threads : part_of b.table.threads q ≡ part_of a.table.threads q = other.threads.same q ne in
    let stored : part_of b.table.stored q ≡ part_of a.table.stored q = other.stored.same q ne in
    let lines : part_of b.lines q ≡ part_of a.lines q = other.lines.same q ne in
    let mutexes : part_of b.mutexes q ≡ part_of a.mutexes q = other.mutexes.same q ne in
    let conditions : part_of b.conditions q ≡ part_of a.conditions q = other.conditions.same q ne in
    let syncs : of_part q b ≡ of_part q a = λ i. record { locks = record { threads = threads i; line = lines i; mutexes = mutexes i }; conditions = conditions i } in
    record {
      ready = record {
        part = record {
          of_threads = rw other.threads.long synced.ready.part.of_threads;
          of_stored = rw other.stored.long synced.ready.part.of_stored;
          of_lines = rw other.lines.long synced.ready.part.of_lines;
          of_mutexes = rw other.mutexes.long synced.ready.part.of_mutexes;
        };
        locked = rw (threads, lines, mutexes) synced.ready.locked;
        stored = stored ∙ synced.ready.stored ∙ (λ i. effective_priorities (sym threads i) (sym mutexes i));
      };
      of_conditions = rw other.conditions.long synced.of_conditions;
      waiting = subst (λ (s : Syncs). AreWaiting s) (sym syncs) synced.waiting;
    }

synced_at : (p q : ℕ) (a b : Rostered) → IsOtherwise p a b → AreSyncedAt p b → AreSyncedAt q a → (q ≡ p) ⊎ (q ≢ p) → AreSyncedAt q b
synced_at p q a b other here synced (inl e) = subst (λ (j : ℕ). AreSyncedAt j b) (sym e) here
synced_at p q a b other here synced (inr ne) = synced_other p q a b ne other synced

sound_otherwise : (p : ℕ) (a b : Rostered) → IsOtherwise p a b → AreSyncedAt p b → IsSound a → IsSound b
sound_otherwise p a b other here sound = record {
  synced = λ q lt. synced_at p q a b other here (sound.synced q (rw (← other.threads.long) lt)) (cases_eq q p);
}

-- the roster is sound after a move of one partition that leaves that one so
pub sound_put : (p : ℕ) (a b : Rostered) (syncs : Syncs) → b ≡ put_syncs p syncs a → AreSyncedAt p b → IsSound a → IsSound b
sound_put p a b syncs e here sound =
    sound_otherwise p a b
    (record {
      threads = elsewhere_set p a.table.threads b.table.threads syncs.threads (ap (λ (r : Rostered). r.table.threads) e);
      stored = elsewhere_set p a.table.stored b.table.stored (effective_priorities syncs.threads syncs.mutexes) (ap (λ (r : Rostered). r.table.stored) e);
      lines = elsewhere_set p a.lines b.lines syncs.line (ap (λ (r : Rostered). r.lines) e);
      mutexes = elsewhere_set p a.mutexes b.mutexes syncs.mutexes (ap (λ (r : Rostered). r.mutexes) e);
      conditions = elsewhere_set p a.conditions b.conditions syncs.conditions (put_conditions p a b syncs e);
    }) here sound

-- ---- the mutex calls

-- the roster b is the roster a with these locks at p, as the mutex calls need it
pub record IsLocksMove (p : ℕ) (a b : Rostered) (locks : Locks) : Type 0 where
  pub before : AreReadyAt p a
  pub moved : b ≡ put_locks p locks a
  pub after : AreReadyAt p b

-- with condition variables as they were
abbrev pub with_locks_of : ℕ → Rostered → Locks → Syncs
with_locks_of p a locks = record { locks = locks; conditions = part_of a.conditions p }

pub as_syncs : (p : ℕ) (a b : Rostered) (locks : Locks) → b ≡ put_locks p locks a → b ≡ put_syncs p (with_locks_of p a locks) a
as_syncs p a b locks e = e ∙ ap (λ (l : List (List (Option Condition))). record (put_locks p locks a) { conditions = l }) (sym (set_part-same a.conditions p))

-- such a move after which waiters wait, for the partition
pub synced_locks : (p : ℕ) (a b : Rostered) (locks : Locks) → IsLocksMove p a b locks → (AreWaiting (of_part p a) → AreWaiting (with_locks_of p a locks)) → AreSyncedAt p a → AreSyncedAt p b
synced_locks p a b locks move waits synced = put_synced p a b (with_locks_of p a locks) synced (as_syncs p a b locks move.moved) move.after (waits synced.waiting)

-- and for the roster
pub sound_locks : (p : ℕ) (a b : Rostered) (locks : Locks) → IsLocksMove p a b locks → (AreWaiting (of_part p a) → AreWaiting (with_locks_of p a locks)) → IsSound a → IsSound b
sound_locks p a b locks move waits sound =
    sound_put p a b (with_locks_of p a locks) (as_syncs p a b locks move.moved) (synced_locks p a b locks move waits (sound.synced p move.before.part.of_threads)) sound

-- lock, trylock and a running thread's re-lock
pub sound_made : (made : LockMove) (p t m : ℕ) (wait : Wait) (a b : Rostered) → (made ≡ Counts → owns t (mutex_at (of_part p a).locks m) ≡ true) → IsNoWaiter t (part_of a.mutexes p) (part_of a.conditions p)
    → IsLocksMove p a b (after_move made t m wait (of_part p a).locks) → IsSound a → IsSound b
sound_made made p t m wait a b owned free move sound =
    let locks : Locks = (of_part p a).locks in
    sound_locks p a b (after_move made t m wait locks) move
    (waiting_kept locks (after_move made t m wait locks) (part_of a.conditions p) (λ c k there may. apart_made made t m k wait locks (other_waiter t c k (part_of a.mutexes p) (part_of a.conditions p) free there) owned)) sound

-- the re-lock that ends a condition wait
pub sound_relock : (p t m : ℕ) (reply : Option ℕ) (a b : Rostered) → IsNoWaiter t (part_of a.mutexes p) (part_of a.conditions p) → IsLocksMove p a b (after_relock t m reply (of_part p a).locks) → IsSound a → IsSound b
sound_relock p t m reply a b free move sound =
    let locks : Locks = (of_part p a).locks in
    sound_locks p a b (after_relock t m reply locks) move
    (waiting_kept locks (after_relock t m reply locks) (part_of a.conditions p) (λ c k there may. apart_relock t m k reply locks (other_waiter t c k (part_of a.mutexes p) (part_of a.conditions p) free there))) sound

pub sound_unlock : (p m : ℕ) (a b : Rostered) → IsLocksMove p a b (after_unlock m (of_part p a).locks) → IsSound a → IsSound b
sound_unlock p m a b move sound =
    let locks : Locks = (of_part p a).locks in
    sound_locks p a b (after_unlock m locks) move (waiting_kept locks (after_unlock m locks) (part_of a.conditions p) (λ c k there may. apart_unlock m k locks move.before.locked may.awake)) sound

waiting_withdrawal : (p t m : ℕ) (reply : Option ℕ) (a : Rostered) → IsWaiter (of_part p a).locks m t → AreWaiting (of_part p a) → AreWaiting (record { locks = after_withdrawal t m reply (of_part p a).locks; conditions = part_of a.conditions p })
waiting_withdrawal p t m reply a waiter waiting =
    let locks : Locks = (of_part p a).locks in
    waiting_kept locks (after_withdrawal t m reply locks) (part_of a.conditions p) (λ c k there may. apart_withdrawal t m k reply locks waiter may.awake) waiting

pub synced_withdrawal : (p t m : ℕ) (reply : Option ℕ) (a b : Rostered) → IsWaiter (of_part p a).locks m t → IsLocksMove p a b (after_withdrawal t m reply (of_part p a).locks) → AreSyncedAt p a → AreSyncedAt p b
synced_withdrawal p t m reply a b waiter move synced = synced_locks p a b (after_withdrawal t m reply (of_part p a).locks) move (waiting_withdrawal p t m reply a waiter) synced

pub sound_withdrawal : (p t m : ℕ) (reply : Option ℕ) (a b : Rostered) → IsWaiter (of_part p a).locks m t → IsLocksMove p a b (after_withdrawal t m reply (of_part p a).locks) → IsSound a → IsSound b
sound_withdrawal p t m reply a b waiter move sound = sound_locks p a b (after_withdrawal t m reply (of_part p a).locks) move (waiting_withdrawal p t m reply a waiter) sound

pub sound_marked : (soundness : Soundness) (p m : ℕ) (a b : Rostered) → IsLocksMove p a b (with_soundness soundness m (of_part p a).locks) → IsSound a → IsSound b
sound_marked soundness p m a b move sound =
    let locks : Locks = (of_part p a).locks in
    sound_locks p a b (with_soundness soundness m locks) move (waiting_kept locks (with_soundness soundness m locks) (part_of a.conditions p) (λ c k there may. apart_soundness soundness m k locks)) sound

pub sound_assigned : (p t priority : ℕ) (a b : Rostered) → IsLocksMove p a b (after_assignment t priority (of_part p a).locks) → IsSound a → IsSound b
sound_assigned p t priority a b move sound =
    sound_locks p a b (after_assignment t priority (of_part p a).locks) move (waiting_assigned t priority (of_part p a).locks (part_of a.conditions p)) sound

pub sound_ended : (p t : ℕ) (a b : Rostered) → IsLocksMove p a b (after_owner_end t (of_part p a).locks) → IsSound a → IsSound b
sound_ended p t a b move sound =
    let locks : Locks = (of_part p a).locks in
    sound_locks p a b (after_owner_end t locks) move (waiting_kept locks (after_owner_end t locks) (part_of a.conditions p) (λ c k there may. apart_ends t k (numbers_of locks.mutexes) locks move.before.locked may.awake)) sound

-- ---- calls that change the mutexes of a partition alone

-- the roster with these mutexes of a partition
abbrev pub with_mutexes : ℕ → List (Option Mutex) → Rostered → Rostered
with_mutexes p row a = record a { mutexes = set a.mutexes p row }

sound_mutexes : (p : ℕ) (row : List (Option Mutex)) (a b : Rostered) → b ≡ with_mutexes p row a → p < length a.table.threads → (AreReadyAt p a → AreReadyBy p a.table a.lines (set a.mutexes p row))
    → ((k : ℕ) → IsApart (of_part p a).locks (record (of_part p a).locks { mutexes = row }) k) → IsSound a → IsSound b
sound_mutexes p row a b e lt readies apart sound =
    let synced : AreSyncedAt p a = sound.synced p lt in
    let after : Rostered = with_mutexes p row a in
    let here : part_of (set a.mutexes p row) p ≡ row = part_of-set a.mutexes p row synced.ready.part.of_mutexes in
    let locks : Locks = (of_part p a).locks in
    let waiting : AreWaiting (record { locks = record locks { mutexes = row }; conditions = part_of a.conditions p }) = waiting_kept locks (record locks { mutexes = row }) (part_of a.conditions p) (λ c k there may. apart k) synced.waiting in
    subst (λ (r : Rostered). IsSound r) (sym e)
    (sound_otherwise p a after
    (record {
      threads = record { long = refl; same = λ q ne. refl };
      stored = record { long = refl; same = λ q ne. refl };
      lines = record { long = refl; same = λ q ne. refl };
      mutexes = elsewhere_set p a.mutexes (set a.mutexes p row) row refl;
      conditions = record { long = refl; same = λ q ne. refl };
    })
    (record {
      ready = readies synced.ready;
      of_conditions = synced.of_conditions;
      waiting = rw here waiting;
    }) sound)

-- condition variables of a partition after which waiters wait
pub sound_conditions : (p : ℕ) (row : List (Option Condition)) (a : Rostered) → AreWaiting (of_part p (record a { conditions = set a.conditions p row })) → p < length a.table.threads → IsSound a → IsSound (record a { conditions = set a.conditions p row })
sound_conditions p row a waiting lt sound =
    sound_otherwise p a (record a { conditions = set a.conditions p row })
    (record {
      threads = record { long = refl; same = λ q ne. refl };
      stored = record { long = refl; same = λ q ne. refl };
      lines = record { long = refl; same = λ q ne. refl };
      mutexes = record { long = refl; same = λ q ne. refl };
      conditions = elsewhere_set p a.conditions (set a.conditions p row) row refl;
    })
    (record {
      ready = (sound.synced p lt).ready;
      of_conditions = rw length-set (sound.synced p lt).of_conditions;
      waiting = waiting;
    }) sound

apart_new : (o : Option ℕ) (k : ℕ) (kind : MutexKind) (protocol : Protocol) (is_robust : Bool) (locks : Locks) → IsApart locks (record locks { mutexes = unwrap_or (option_map (λ m. pool_set locks.mutexes m (Some (new_mutex kind protocol is_robust))) o) locks.mutexes }) k
apart_new None k kind protocol is_robust locks = record { thread = refl; out = λ out. out; room = λ n room. room }
apart_new (Some m) k kind protocol is_robust locks = apart_opened m k kind protocol is_robust locks

-- a new mutex
pub sound_init : (p : ℕ) (kind : MutexKind) (protocol : Protocol) (is_robust : Bool) (a b : Rostered) → b ≡ with_mutexes p (with_new_mutex (new_mutex kind protocol is_robust) (part_of a.mutexes p)) a → p < length a.table.threads → IsSound a → IsSound b
sound_init p kind protocol is_robust a b e lt sound =
    sound_mutexes p (with_new_mutex (new_mutex kind protocol is_robust) (part_of a.mutexes p)) a b e lt (ready_init p kind protocol is_robust a.table a.lines a.mutexes)
    (λ k. apart_new (least_free (part_of a.mutexes p)) k kind protocol is_robust (of_part p a).locks) sound

-- a mutex gone that is not locked
pub sound_destroy : (p m : ℕ) (a b : Rostered) → waiters_of (pool_get (part_of a.mutexes p) m) ≡ [] → is_locked (pool_get (part_of a.mutexes p) m) ≡ false → b ≡ with_mutexes p (pool_set (part_of a.mutexes p) m None) a → p < length a.table.threads → IsSound a → IsSound b
sound_destroy p m a b unused unlocked e lt sound =
    sound_mutexes p (pool_set (part_of a.mutexes p) m None) a b e lt (ready_destroy p m a.table a.lines a.mutexes unused unlocked) (λ k. apart_closed m k (of_part p a).locks) sound

-- one taken or freed that raises nobody
pub sound_taken : (p t m : ℕ) (a b : Rostered) → is_raising_at (pool_get (part_of a.mutexes p) m) ≡ false → b ≡ with_mutexes p (after_take t m (of_part p a).locks).mutexes a → p < length a.table.threads → IsSound a → IsSound b
sound_taken p t m a b plain e lt sound =
    sound_mutexes p (after_take t m (of_part p a).locks).mutexes a b e lt (ready_taken p t m a.table a.lines a.mutexes plain) (λ k. apart_take t m k (of_part p a).locks) sound

pub sound_freed : (p m : ℕ) (a b : Rostered) → is_raising_at (pool_get (part_of a.mutexes p) m) ≡ false → b ≡ with_mutexes p (after_free m (of_part p a).locks).mutexes a → p < length a.table.threads → IsSound a → IsSound b
sound_freed p m a b plain e lt sound =
    sound_mutexes p (after_free m (of_part p a).locks).mutexes a b e lt (ready_freed p m a.table a.lines a.mutexes plain) (λ k. apart_free m k (of_part p a).locks) sound

-- ---- stored priorities computed again

-- the roster with the effective priorities of a partition stored
abbrev pub with_refreshed : ℕ → Rostered → Rostered
with_refreshed p a = with_priorities p (effective_priorities (part_of a.table.threads p) (part_of a.mutexes p)) a

-- which a sound roster has
pub sound_refreshed : (p : ℕ) (a b : Rostered) → p < length a.table.threads → b ≡ with_refreshed p a → IsSound a → IsSound b
sound_refreshed p a b lt e sound =
    let kept : set a.table.stored p (effective_priorities (part_of a.table.threads p) (part_of a.mutexes p)) ≡ a.table.stored = ap (set a.table.stored p) (sym (sound.synced p lt).ready.stored) ∙ set_part-same a.table.stored p in
    subst (λ (r : Rostered). IsSound r) (sym (e ∙ ap (λ (l : List (List ℕ)). record a { table = record a.table { stored = l } }) kept)) sound

-- ---- a fresh roster

synced_blank : (p : ℕ) (counts limits others : List ℕ) (lines : List (List ℕ)) → p < length counts → p < length limits → p < length others → p < length lines → AreSyncedBy p (seen (free_table counts)) lines (map (filled None) limits) (map (filled None) others)
synced_blank p counts limits others lines of_threads of_mutexes of_conditions of_lines = record {
  ready = ready_blank p counts limits lines of_threads of_mutexes of_lines;
  of_conditions = rw (length-map others (filled {X = Option Condition} None)) of_conditions;
  waiting = record {
    waiters = λ c k h.
        let blank : pool_get (part_of (map (filled None) others) p) c ≡ None = ap (λ (row : List (Option Condition)). pool_get row c) (row_blank None others p of_conditions) ∙ pool_blank (slice_index others p) c in
        let no : is_in k (waiters_on None) ≡ true = subst (λ (x : Option Condition). is_in k (waiters_on x) ≡ true) blank h in
        absurd cc;
  };
}

-- in which every number is free
pub sound_blank : (counts limits others : List ℕ) (a : Rostered) → length limits ≡ length counts → length others ≡ length counts → a.table ≡ seen (free_table counts) → a.lines ≡ replicate (length counts) [] → a.mutexes ≡ map (filled None) limits → a.conditions ≡ map (filled None) others → IsSound a
sound_blank counts limits others a of_limits of_others of_table of_lines of_mutexes of_conditions =
    let blank : Rostered = record { table = seen (free_table counts); lines = replicate (length counts) []; mutexes = map (filled None) limits; conditions = map (filled None) others } in
    let same : blank ≡ a = λ i. record { table = sym of_table i; lines = sym of_lines i; mutexes = sym of_mutexes i; conditions = sym of_conditions i } in
    subst (λ (r : Rostered). IsSound r) same
    (record {
      synced = λ p lt.
          let within : p < length counts = rw (← length-map counts (filled {X = Option Thread} None)) lt in
          synced_blank p counts limits others (replicate (length counts) []) within (rw of_limits within) (rw of_others within) (rw length-replicate within);
    })
