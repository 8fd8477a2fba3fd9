-- A mutex taken, marked, abandoned, left by a waiter, and handed over.
use Rattle.std.proofs.Common.{◌≡◌, ℕ, true, List, [], refl, sym, ◌∙◌, ap, arith}
use Rattle.std.specs.Prelude.{Option, Some, None, option_map}
use Rattle.std.proofs.lemmas.Bool.{eqb-true, false≢true, true≢false}
use Rattle.ptk_words.specs.Pools.{pool_get, pool_changed, is_in}
use Rattle.ptk_words.specs.declared.threads.Thread.{Thread}
use Rattle.ptk_words.specs.declared.mutexes.Soundness.{Soundness}
use Rattle.ptk_words.specs.declared.mutexes.Owner.TheVariants.{Free, Abandoned, OwnedBy}
use Rattle.ptk_words.proofs.Pools.{each_changed}
use Rattle.ptk_words.proofs.Lists.{first_in, first_none}
use Rattle.ptk_words.proofs.Options.{one_value}
use Rattle.ptk_words_model.specs.State.{Mutex, Locks}
use Rattle.ptk_words_model.specs.Priority.{awaited, thread_at, effective_priority}
use Rattle.ptk_words_model.specs.Schedule.{at_tail_with}
use Rattle.ptk_words_model.specs.Mutex.{mutex_at, with_mutex, waiters_of, soundness_of, with_soundness, handed, heir, free_move, without_mutex_waiter, after_take, after_free, after_hand_over_to, after_hand_over, after_abandonment}
use Rattle.ptk_words_model.specs.Unwinding.{is_alive}
use Rattle.ptk_words_sync_invariant.proofs.Threads.{IsWaking, waking_handed, waking_used, used_changed, idle_awaits, none_awaits, awaits_not_ready, awaits_alive}
use Rattle.ptk_words_sync_invariant.proofs.Exclusion.{IsExclusive, IsServed, IsAwaitChange, IsMild, exclusive_beside, exclusive_left, exclusive_owned, exclusive_mild, left_by, served_left, served_mild}
use Rattle.ptk_words_sync_invariant.proofs.Wakings.{waking_idle, waking_await, lined_woken}
use Rattle.ptk_words_sync_invariant.proofs.Held.{Rest, AreHeld, AreHeldQueued, held_queued_from, held_from, held_mutex}
use Rattle.ptk_words_sync_invariant.proofs.Rooms.{roomy_take, roomy_soundness, roomy_abandoned, roomy_free, roomy_left}

-- ---- one mutex taken, changed, abandoned, freed

exclusive_take : (threads : List (Option Thread)) (t m : ℕ) (mutex : Option Mutex) → is_alive (pool_get threads t) ≡ true → IsExclusive threads m mutex → IsExclusive threads m (option_map (λ (x : Mutex). record x { owner = OwnedBy t; count = 1 }) mutex)
exclusive_take threads t m None alive was = was
exclusive_take threads t m (Some x) alive was =
    exclusive_owned threads m (Some x) (Some (record x { owner = OwnedBy t; count = 1 })) refl (λ u e. ap (λ v. is_alive (pool_get threads v)) (sym (eqb-true t u e)) ∙ alive) (omega arith) was

served_take : (t : ℕ) (mutex : Option Mutex) → IsServed (option_map (λ (x : Mutex). record x { owner = OwnedBy t; count = 1 }) mutex)
served_take t None = λ e. refl
served_take t (Some x) = λ e. absurd (true≢false e)

-- the mutex goes to a thread that has not ended
pub held_take : (interval t m : ℕ) (running : Option ℕ) (rest : Rest) (locks : Locks) → is_alive (thread_at locks t) ≡ true → AreHeld interval running rest locks → AreHeld interval running rest (after_take t m locks)
held_take interval t m running rest locks alive are =
    held_mutex interval m running rest (λ (x : Mutex). record x { owner = OwnedBy t; count = 1 }) locks (rest.mutex m _ locks.threads locks.mutexes (roomy_take t) are.holds)
    (exclusive_take locks.threads t m (mutex_at locks m) alive ((held_queued_from interval running rest locks are).queues m)) (served_take t (mutex_at locks m)) are

-- f leaves the owner and the waiters, and a count within the limit
pub held_mild : (interval m : ℕ) (running : Option ℕ) (rest : Rest) (f : Mutex → Mutex) (locks : Locks) → rest.Holds locks.threads (pool_changed m f locks.mutexes) → ((x : Mutex) → mutex_at locks m ≡ Some x → IsMild x (f x))
    → AreHeld interval running rest locks → AreHeld interval running rest (with_mutex m f locks)
held_mild interval m running rest f locks kept mild are =
    held_mutex interval m running rest f locks kept (exclusive_mild locks.threads m f (mutex_at locks m) mild ((held_queued_from interval running rest locks are).queues m))
    (served_mild f (mutex_at locks m) mild (are.exclusion.free_unwaited m)) are

pub mild_soundness : (soundness : Soundness) (mutex : Option Mutex) (threads : List (Option Thread)) (m : ℕ) → IsExclusive threads m mutex → (x : Mutex) → mutex ≡ Some x → IsMild x (record x { soundness = soundness })
mild_soundness soundness mutex threads m was x e = record { owner = refl; waiters = refl; count = rw e at was.count }

-- what the mutex guards is sound or not
pub held_soundness : (interval m : ℕ) (running : Option ℕ) (rest : Rest) (soundness : Soundness) (locks : Locks) → AreHeld interval running rest locks → AreHeld interval running rest (with_soundness soundness m locks)
held_soundness interval m running rest soundness locks are =
    held_mild interval m running rest (λ (x : Mutex). record x { soundness = soundness }) locks (rest.mutex m _ locks.threads locks.mutexes (roomy_soundness soundness) are.holds)
    (mild_soundness soundness (mutex_at locks m) locks.threads m ((held_queued_from interval running rest locks are).queues m)) are

exclusive_abandoned : (threads : List (Option Thread)) (m : ℕ) (mutex : Option Mutex) → IsExclusive threads m mutex → IsExclusive threads m (option_map (λ (x : Mutex). record x { owner = Abandoned }) mutex)
exclusive_abandoned threads m None was = was
exclusive_abandoned threads m (Some x) was = exclusive_owned threads m (Some x) (Some (record x { owner = Abandoned })) refl (λ u e. absurd (false≢true e)) was.count was

served_abandoned : (mutex : Option Mutex) → IsServed (option_map (λ (x : Mutex). record x { owner = Abandoned }) mutex)
served_abandoned None = λ e. refl
served_abandoned (Some x) = λ e. absurd (true≢false e)

-- nobody owns the mutex, and it stays locked
pub held_abandonment : (interval m : ℕ) (running : Option ℕ) (rest : Rest) (locks : Locks) → AreHeld interval running rest locks → AreHeld interval running rest (after_abandonment m locks)
held_abandonment interval m running rest locks are =
    held_mutex interval m running rest (λ (x : Mutex). record x { owner = Abandoned }) locks (rest.mutex m _ locks.threads locks.mutexes roomy_abandoned are.holds)
    (exclusive_abandoned locks.threads m (mutex_at locks m) ((held_queued_from interval running rest locks are).queues m)) (served_abandoned (mutex_at locks m)) are

pub exclusive_free : (threads : List (Option Thread)) (m : ℕ) (mutex : Option Mutex) → IsExclusive threads m mutex → IsExclusive threads m (option_map (λ (x : Mutex). record x { owner = Free; count = 0 }) mutex)
exclusive_free threads m None was = was
exclusive_free threads m (Some x) was = exclusive_owned threads m (Some x) (Some (record x { owner = Free; count = 0 })) refl (λ u e. absurd (false≢true e)) (omega arith) was

served_free : (mutex : Option Mutex) → waiters_of mutex ≡ [] → IsServed (option_map (λ (x : Mutex). record x { owner = Free; count = 0 }) mutex)
served_free None none = λ e. refl
served_free (Some x) none = λ e. none

-- a mutex without waiters is free
pub held_free : (interval m : ℕ) (running : Option ℕ) (rest : Rest) (locks : Locks) → waiters_of (mutex_at locks m) ≡ [] → AreHeld interval running rest locks → AreHeld interval running rest (after_free m locks)
held_free interval m running rest locks none are =
    held_mutex interval m running rest (λ (x : Mutex). record x { owner = Free; count = 0 }) locks (rest.mutex m _ locks.threads locks.mutexes roomy_free are.holds)
    (exclusive_free locks.threads m (mutex_at locks m) ((held_queued_from interval running rest locks are).queues m)) (served_free (mutex_at locks m) none) are

-- ---- a waiter that leaves

-- the waiter has left the mutex and is woken by f (pthread_mutex_unlock; own)
abbrev pub woken_out : (Thread → Thread) → ℕ → ℕ → Locks → Locks
woken_out f t m locks = at_tail_with f t (without_mutex_waiter t m locks)

pub held_queued_leave : (interval t m : ℕ) (f : Thread → Thread) (running : Option ℕ) (rest : Rest) (locks : Locks) → IsWaking f → awaited (thread_at locks t) ≡ Some m → AreHeldQueued interval running rest locks → AreHeldQueued interval running rest (woken_out f t m locks)
held_queued_leave interval t m f running rest locks waking waits queued =
    let after : List (Option Thread) = pool_changed t f locks.threads in
    let change : IsAwaitChange t locks.threads after = waking_await t f locks.threads waking in
    let free : awaited (pool_get after t) ≡ None = idle_awaits (pool_get after t) (waking_idle t f locks.threads waking) in
    let alive : is_alive (thread_at locks t) ≡ true = awaits_alive m (thread_at locks t) (rest.ended t locks.threads locks.mutexes queued.holds) waits in
    record {
      lined = lined_woken t f locks.threads locks.line running waking alive (awaits_not_ready m (thread_at locks t) waits) queued.lined;
      holds = rest.mutex m (left_by t) after locks.mutexes (roomy_left t) (rest.woken t m f locks.threads locks.mutexes waking waits queued.holds);
      queues = each_changed (λ (n : ℕ) (mutex : Option Mutex). IsExclusive after n mutex) m (left_by t) locks.mutexes
          (exclusive_left t m locks.threads after (mutex_at locks m) change waits (none_awaits m (pool_get after t) free) (queued.queues m))
          (λ n ne. exclusive_beside t n locks.threads after (mutex_at locks n) change (λ e. ne (one_value n m (awaited (thread_at locks t)) e waits)) (none_awaits n (pool_get after t) free) (queued.queues n));
      used = used_changed interval t f locks.threads (rw (waking_used f (thread_at locks t) waking) (queued.used 0)) queued.used;
    }

pub held_leave : (interval t m : ℕ) (f : Thread → Thread) (running : Option ℕ) (rest : Rest) (locks : Locks) → IsWaking f → awaited (thread_at locks t) ≡ Some m → AreHeld interval running rest locks → AreHeld interval running rest (woken_out f t m locks)
held_leave interval t m f running rest locks waking waits are =
    held_from interval running rest (woken_out f t m locks) (held_queued_leave interval t m f running rest locks waking waits (held_queued_from interval running rest locks are))
    (each_changed (λ (n : ℕ) (mutex : Option Mutex). IsServed mutex) m (left_by t) locks.mutexes (served_left t (mutex_at locks m) (are.exclusion.free_unwaited m)) (λ n ne. are.exclusion.free_unwaited n))

-- ---- a hand over

-- the heir waits for the mutex
pub heir_waits : (m t : ℕ) (locks : Locks) → ((u : ℕ) → is_in u (waiters_of (mutex_at locks m)) ≡ true → awaited (thread_at locks u) ≡ Some m) → heir m locks ≡ Some t → awaited (thread_at locks t) ≡ Some m
heir_waits m t locks waits e = waits t (first_in (effective_priority locks) t (waiters_of (mutex_at locks m)) e)

-- where there is no heir there are no waiters
pub no_heir : (m : ℕ) (locks : Locks) → heir m locks ≡ None → waiters_of (mutex_at locks m) ≡ []
no_heir m locks e = first_none (effective_priority locks) (waiters_of (mutex_at locks m)) e

pub held_hand_over_to : (interval m : ℕ) (running : Option ℕ) (rest : Rest) (next : Option ℕ) (locks : Locks) → heir m locks ≡ next → AreHeld interval running rest locks → AreHeld interval running rest (after_hand_over_to next m locks)
held_hand_over_to interval m running rest None locks e are = held_free interval m running rest locks (no_heir m locks e) are
held_hand_over_to interval m running rest (Some t) locks e are =
    let waits : awaited (thread_at locks t) ≡ Some m = heir_waits m t locks (are.exclusion.waiters_wait m) e in
    let alive : is_alive (thread_at locks t) ≡ true = awaits_alive m (thread_at locks t) (rest.ended t locks.threads locks.mutexes are.holds) waits in
    held_leave interval t m (handed (free_move (soundness_of (mutex_at locks m)))) running rest (after_take t m locks) (waking_handed (free_move (soundness_of (mutex_at locks m)))) waits (held_take interval t m running rest locks alive are)

-- the mutex goes to its heir, or is free
pub held_hand_over : (interval m : ℕ) (running : Option ℕ) (rest : Rest) (locks : Locks) → AreHeld interval running rest locks → AreHeld interval running rest (after_hand_over m locks)
held_hand_over interval m running rest locks are = held_hand_over_to interval m running rest (heir m locks) locks refl are
