-- What becomes of a mutex that is neither INHERIT nor PROTECT changes no priority: the stored ones stay the effective ones.
use Rattle.std.proofs.Common.{◌≡◌, ℕ, List, refl, sym, ◌∙◌, ap}
use Rattle.std.specs.Prelude.{false, Option, Some, None, option_to_list}
use Rattle.std.proofs.Math.ListN.{set}
use Rattle.std.proofs.lemmas.List.{length-set}
use Rattle.ptk_words.specs.Pools.{pool_get, pool_changed}
use Rattle.ptk_words.specs.declared.faults.Errno.TheVariants.{ENOTRECOVERABLE}
use Rattle.ptk_words.specs.declared.threads.Thread.{Thread}
use Rattle.ptk_words.proofs.Pools.{changed_own}
use Rattle.ptk_words.specs.Parts.{part_of}
use Rattle.ptk_words_model.specs.declared.LockMove.TheVariants.{Refuses}
use Rattle.ptk_words_model.specs.State.{Mutex, Locks}
use Rattle.ptk_words_model.specs.Priority.{awaited, thread_at, effective_priorities}
use Rattle.ptk_words_model.specs.Schedule.{at_tail_with, woken_with}
use Rattle.ptk_words_model.specs.Mutex.{mutex_at, with_mutex, soundness_of, free_move, handed, without_mutex_waiter, after_take, after_hand_over_to, after_refusal_to}
use Rattle.ptk_threads.specs.Table.{ThreadTable}
use Rattle.ptk_threads.proofs.Pools.{part_of-set}
use Rattle.ptk_roster.specs.declared.slot.Change.{Change}
use Rattle.ptk_roster.specs.declared.slot.Change.TheVariants.{Take, Release}
use Rattle.ptk_roster.specs.Changes.{mutex_changed, IsQuiet}
use Rattle.ptk_roster.specs.Plain.{is_raising_at}
use Rattle.ptk_roster.proofs.Plain.{raising-kept}
use Rattle.ptk_roster.proofs.Raising.{plain_raises_nobody, plain_wait_raises_nobody, keeps_protocol}
use Rattle.ptk_roster.specs.Rosters.{Rostered}
use Rattle.ptk_roster.specs.Waiters.{left_by}
use Rattle.ptk_mutex.specs.Moves.{after_change, after_withdrawal}
use Rattle.ptk_mutex.specs.Tables.{locks_by, put_locks_alone, AreLocked, AreReadyBy, IsWaiter, MayGet}
use Rattle.ptk_mutex.proofs.Steps.{locked_change}

-- ---- the moves

-- mutex m keeps its protocol, and where it is neither INHERIT nor PROTECT every effective priority stays
pub record IsUnraised (m : ℕ) (before after : Locks) : Type 0 where
  pub protocol : is_raising_at (mutex_at after m) ≡ is_raising_at (mutex_at before m)
  pub stays : is_raising_at (mutex_at before m) ≡ false → effective_priorities after.threads after.mutexes ≡ effective_priorities before.threads before.mutexes

unraised_none : (m : ℕ) (locks : Locks) → IsUnraised m locks locks
unraised_none m locks = record { protocol = refl; stays = λ plain. refl }

unraised_more : (m : ℕ) (a b c : Locks) → IsUnraised m a b → IsUnraised m b c → IsUnraised m a c
unraised_more m a b c first second = record { protocol = second.protocol ∙ first.protocol; stays = λ plain. second.stays (first.protocol ∙ plain) ∙ first.stays plain }

unraised_mutex : (m : ℕ) (f : Mutex → Mutex) (locks : Locks) → ((mutex : Mutex) → (f mutex).protocol ≡ mutex.protocol) → IsUnraised m locks (with_mutex m f locks)
unraised_mutex m f locks same = record {
  protocol = ap is_raising_at (changed_own m f locks.mutexes) ∙ raising-kept f (mutex_at locks m) same;
  stays = λ plain. plain_raises_nobody locks.threads locks.mutexes m f same plain;
}

-- a change
pub unraised_change : (change : Change) (m : ℕ) (locks : Locks) → IsUnraised m locks (after_change change m locks)
unraised_change change m locks = unraised_mutex m (mutex_changed change) locks (keeps_protocol change)

-- a waiter that leaves, and is woken
unraised_left : (m t : ℕ) (f : Thread → Thread) (locks : Locks) → ((thread : Thread) → (f thread).priority ≡ thread.priority) → ((thread : Thread) → (f thread).wait ≡ None) → awaited (thread_at locks t) ≡ Some m
    → IsUnraised m locks (at_tail_with f t (without_mutex_waiter t m locks))
unraised_left m t f locks level awake waits =
    let gone : Locks = without_mutex_waiter t m locks in
    unraised_more m locks gone (at_tail_with f t gone) (unraised_mutex m (left_by t) locks (λ mutex. refl))
    (record { protocol = refl; stays = λ plain. plain_wait_raises_nobody gone.threads gone.mutexes m t f level awake waits plain })

pub unraised_withdrawal : (m t : ℕ) (reply : Option ℕ) (locks : Locks) → IsWaiter locks m t → IsUnraised m locks (after_withdrawal t m reply locks)
unraised_withdrawal m t reply locks waiter = unraised_left m t (woken_with (option_to_list reply)) locks (λ thread. refl) (λ thread. refl) waiter.waits

-- a hand over
pub unraised_hand_over : (m : ℕ) (next : Option ℕ) (locks : Locks) → MayGet next locks m → IsUnraised m locks (after_hand_over_to next m locks)
unraised_hand_over m None locks may = unraised_change Release m locks
unraised_hand_over m (Some t) locks may =
    let taken : Locks = after_take t m locks in
    unraised_more m locks taken (after_hand_over_to (Some t) m locks) (unraised_change (Take t) m locks) (unraised_left m t (handed (free_move (soundness_of (mutex_at locks m)))) taken (λ thread. refl) (λ thread. refl) may.waits)

-- a refusal
pub unraised_refusal : (m : ℕ) (next : Option ℕ) (locks : Locks) → MayGet next locks m → IsUnraised m locks (after_refusal_to next m locks)
unraised_refusal m None locks may = unraised_none m locks
unraised_refusal m (Some t) locks may = unraised_left m t (handed (Refuses ENOTRECOVERABLE)) locks (λ thread. refl) (λ thread. refl) may.waits

-- ---- the tables

-- after such a move of p's that stored no priority, the stored ones are the effective ones
pub unraised_stored : (p m : ℕ) (a b : Rostered) (after : Locks) → AreReadyBy p a.table a.lines a.mutexes → IsUnraised m (locks_by p a.table a.lines a.mutexes) after → b ≡ put_locks_alone p after a
    → is_raising_at (pool_get (part_of b.mutexes p) m) ≡ false → part_of b.table.stored p ≡ effective_priorities (part_of b.table.threads p) (part_of b.mutexes p)
unraised_stored p m a b after ready move e plain =
    let here : part_of b.mutexes p ≡ after.mutexes = ap (λ (r : Rostered). part_of r.mutexes p) e ∙ part_of-set a.mutexes p after.mutexes ready.part.of_mutexes in
    let there : part_of b.table.threads p ≡ after.threads = ap (λ (r : Rostered). part_of r.table.threads p) e ∙ part_of-set a.table.threads p after.threads ready.part.of_threads in
    let was : is_raising_at (pool_get (part_of a.mutexes p) m) ≡ false = sym move.protocol ∙ sym (ap (λ l. is_raising_at (pool_get l m)) here) ∙ plain in
    ap (λ (r : Rostered). part_of r.table.stored p) e ∙ ready.stored ∙ sym (move.stays was) ∙ (λ i. effective_priorities (sym there i) (sym here i))

-- the tables stay ready
ready_quiet : (p m : ℕ) (change : Change) (table : ThreadTable) (lines : List (List ℕ)) (mutexes : List (List (Option Mutex))) → IsQuiet change → is_raising_at (pool_get (part_of mutexes p) m) ≡ false
    → AreReadyBy p table lines mutexes → AreReadyBy p table lines (set mutexes p (pool_changed m (mutex_changed change) (part_of mutexes p)))
ready_quiet p m change table lines mutexes quiet plain ready =
    let row : List (Option Mutex) = pool_changed m (mutex_changed change) (part_of mutexes p) in
    let here : part_of (set mutexes p row) p ≡ row = part_of-set mutexes p row ready.part.of_mutexes in
    let after : Locks = record { threads = part_of table.threads p; line = part_of lines p; mutexes = row } in
    let locked : AreLocked after = locked_change change m (locks_by p table lines mutexes) quiet ready.locked in
    let kept : effective_priorities (part_of table.threads p) row ≡ effective_priorities (part_of table.threads p) (part_of mutexes p) =
    plain_raises_nobody (part_of table.threads p) (part_of mutexes p) m (mutex_changed change) (keeps_protocol change) plain in
    record {
      part = record {
        of_threads = ready.part.of_threads;
        of_stored = ready.part.of_stored;
        of_lines = ready.part.of_lines;
        of_mutexes = rw length-set ready.part.of_mutexes;
      };
      locked = rw here locked;
      stored = ready.stored ∙ sym kept ∙ ap (effective_priorities (part_of table.threads p)) (sym here);
    }

-- a thread takes it
pub ready_taken : (p t m : ℕ) (table : ThreadTable) (lines : List (List ℕ)) (mutexes : List (List (Option Mutex))) → is_raising_at (pool_get (part_of mutexes p) m) ≡ false → AreReadyBy p table lines mutexes
    → AreReadyBy p table lines (set mutexes p (pool_changed m (mutex_changed (Take t)) (part_of mutexes p)))
ready_taken p t m table lines mutexes plain ready = ready_quiet p m (Take t) table lines mutexes tt plain ready

-- or it is free
pub ready_freed : (p m : ℕ) (table : ThreadTable) (lines : List (List ℕ)) (mutexes : List (List (Option Mutex))) → is_raising_at (pool_get (part_of mutexes p) m) ≡ false → AreReadyBy p table lines mutexes
    → AreReadyBy p table lines (set mutexes p (pool_changed m (mutex_changed Release) (part_of mutexes p)))
ready_freed p m table lines mutexes plain ready = ready_quiet p m Release table lines mutexes tt plain ready
