-- That tables stay ready where the number of a mutex is taken or freed, and that fresh tables are ready.
use Rattle.std.proofs.Common.{◌≡◌, ℕ, zero, suc, ◌<◌, ◌≤◌, List, [], ◌∷◌, length, map, max, get_or, replicate, refl, sym, ◌∙◌, ap, subst, arith, Bool, true, false}
use Rattle.std.specs.Prelude.{Option, Some, None, option_map, unwrap_or, slice_get, fold, filter, not, if◌then◌else◌}
use Rattle.std.specs.Option.{option_flatten}
use Rattle.std.proofs.Math.ListN.{set}
use Rattle.std.proofs.lemmas.List.{length-set, length-map, length-replicate, get_or-map}
use Rattle.ptk_words.specs.Pools.{pool_get, pool_set, is_in, least_free, greatest, numbers_to, numbers_of}
use Rattle.ptk_words.specs.declared.TheConstants.{COUNT_LIMIT}
use Rattle.ptk_words.specs.declared.threads.Thread.{Thread}
use Rattle.ptk_words.specs.declared.mutexes.MutexKind.{MutexKind}
use Rattle.ptk_words.specs.declared.mutexes.Owner.{Owner}
use Rattle.ptk_words.specs.declared.mutexes.Owner.TheVariants.{Free, Abandoned, OwnedBy}
use Rattle.ptk_words.specs.declared.mutexes.Protocol.{Protocol}
use Rattle.ptk_words.specs.declared.mutexes.Protocol.TheVariants.{NoProtocol, Inherit, Protect}
use Rattle.ptk_words.proofs.Pools.{least_free_none, pool_set_all}
use Rattle.ptk_words.specs.Parts.{part_of, filled}
use Rattle.ptk_words.proofs.Cuts.{set_part-same}
use Rattle.ptk_words_model.specs.State.{Mutex, Locks}
use Rattle.ptk_words_model.specs.Chain.{leads_to, greatest_leading}
use Rattle.ptk_words_model.specs.Priority.{is_owner, ceiling_of, ceiling_for, inheritor, inheritor_of, assigned_of, held_of, next_in_chain, effective_of, effective_priorities}
use Rattle.ptk_words_model.specs.Mutex.{mutex_at, new_mutex, is_free, waiters_of, count_of}
use Rattle.ptk_words_model.specs.MutexCalls.{is_locked}
use Rattle.ptk_words_sync_invariant.proofs.MutexPlaces.{pool_set_same, effective-set}
use Rattle.ptk_threads.specs.Table.{ThreadTable, free_table}
use Rattle.ptk_threads.proofs.Pools.{part_of-set}
use Rattle.ptk_roster.specs.Rosters.{seen}
use Rattle.ptk_roster.proofs.LevelLists.{length-numbers_to}
use Rattle.ptk_mutex.specs.Pool.{with_new_mutex}
use Rattle.ptk_mutex.specs.Tables.{AreLocked, AreReadyBy}

-- ---- a mutex that is not in use

-- nobody waits for the mutex, and it raises nobody
pub record IsIdle (x : Option Mutex) : Type 0 where
  pub waiters : waiters_of x ≡ []
  pub inherits : inheritor_of x ≡ None
  pub ceilings : (t : ℕ) → ceiling_for t x ≡ 0

inherits_free : (protocol : Protocol) (owner : Owner) → not (is_free owner) ≡ false → inheritor protocol owner ≡ None
inherits_free NoProtocol owner e = refl
inherits_free (Protect ceiling) owner e = refl
inherits_free Inherit Free e = refl
inherits_free Inherit Abandoned e = refl
inherits_free Inherit (OwnedBy u) e = let no : ⊥ = cc in absurd no

ceiling_free : (t : ℕ) (protocol : Protocol) (owner : Owner) → not (is_free owner) ≡ false → (if is_owner t owner then ceiling_of protocol else 0) ≡ 0
ceiling_free t _ Free e = refl
ceiling_free t _ Abandoned e = refl
ceiling_free t _ (OwnedBy u) e = let no : ⊥ = cc in absurd no

-- one that is not locked, without waiters
pub idle_unlocked : (x : Option Mutex) → waiters_of x ≡ [] → is_locked x ≡ false → IsIdle x
idle_unlocked None w e = record { waiters = w; inherits = refl; ceilings = λ t. refl }
idle_unlocked (Some m) w e = record {
  waiters = w;
  inherits = inherits_free m.protocol m.owner e;
  ceilings = λ t. ceiling_free t m.protocol m.owner e;
}

-- a free number
pub idle_none : (x : Option Mutex) → x ≡ None → IsIdle x
idle_none x e = rw e (idle_unlocked None refl refl)

-- ---- effective priorities with one idle mutex in another's place

-- they stay
pub effective_set : (threads : List (Option Thread)) (mutexes : List (Option Mutex)) (m : ℕ) (x : Option Mutex) → IsIdle (pool_get mutexes m) → IsIdle x → effective_priorities threads (pool_set mutexes m x) ≡ effective_priorities threads mutexes
effective_set threads mutexes m x was idle =
    let same : effective_of threads (pool_set mutexes m x) ≡ effective_of threads mutexes = effective-set m x threads mutexes (idle.inherits ∙ sym was.inherits) (λ t. idle.ceilings t ∙ sym (was.ceilings t)) in
    ap (λ (rank : ℕ → ℕ). map rank (numbers_of threads)) same

-- ---- tables with one idle mutex in another's place

locked_set : (m : ℕ) (x : Option Mutex) (locks : Locks) → IsIdle (mutex_at locks m) → IsIdle x → count_of x ≤ COUNT_LIMIT → AreLocked locks → AreLocked (record locks { mutexes = pool_set locks.mutexes m x })
locked_set m x locks was idle le locked = record {
  waiters = λ n k h.
      let old : is_in k (waiters_of (mutex_at locks n)) ≡ true = subst (λ (ks : List ℕ). is_in k ks ≡ true) (pool_set_same waiters_of locks.mutexes m n x (idle.waiters ∙ sym was.waiters)) h in
      let waiter = locked.waiters n k old in
      record { waits = waiter.waits; out = waiter.out; inside = h };
  counts = λ n. pool_set_all (λ (y : Option Mutex). count_of y ≤ COUNT_LIMIT) locks.mutexes m n x le (locked.counts n);
}

pub ready_set : (p m : ℕ) (x : Option Mutex) (table : ThreadTable) (lines : List (List ℕ)) (mutexes : List (List (Option Mutex))) → IsIdle (pool_get (part_of mutexes p) m) → IsIdle x → count_of x ≤ COUNT_LIMIT → AreReadyBy p table lines mutexes
    → AreReadyBy p table lines (set mutexes p (pool_set (part_of mutexes p) m x))
ready_set p m x table lines mutexes was idle le ready =
    let row : List (Option Mutex) = pool_set (part_of mutexes p) m x in
    let here : part_of (set mutexes p row) p ≡ row = part_of-set mutexes p row ready.part.of_mutexes in
    record {
      part = record {
        of_threads = ready.part.of_threads;
        of_stored = ready.part.of_stored;
        of_lines = ready.part.of_lines;
        of_mutexes = rw length-set ready.part.of_mutexes;
      };
      locked = subst (λ (l : List (Option Mutex)). AreLocked (record { threads = part_of table.threads p; line = part_of lines p; mutexes = l })) (sym here)
          (locked_set m x (record { threads = part_of table.threads p; line = part_of lines p; mutexes = part_of mutexes p }) was idle le ready.locked);
      stored = ready.stored ∙ sym (effective_set (part_of table.threads p) (part_of mutexes p) m x was idle) ∙ ap (effective_priorities (part_of table.threads p)) (sym here);
    }

ready_new : (p : ℕ) (o : Option ℕ) (mutex : Mutex) (table : ThreadTable) (lines : List (List ℕ)) (mutexes : List (List (Option Mutex))) → least_free (part_of mutexes p) ≡ o → IsIdle (Some mutex) → mutex.count ≤ COUNT_LIMIT → AreReadyBy p table lines mutexes
    → AreReadyBy p table lines (set mutexes p (unwrap_or (option_map (λ m. pool_set (part_of mutexes p) m (Some mutex)) o) (part_of mutexes p)))
ready_new p None mutex table lines mutexes e idle le ready = rw (set_part-same mutexes p) ready
ready_new p (Some m) mutex table lines mutexes e idle le ready = ready_set p m (Some mutex) table lines mutexes (idle_none (pool_get (part_of mutexes p) m) (least_free_none (part_of mutexes p) m e)) idle le ready

-- init leaves ready tables
pub ready_init : (p : ℕ) (kind : MutexKind) (protocol : Protocol) (is_robust : Bool) (table : ThreadTable) (lines : List (List ℕ)) (mutexes : List (List (Option Mutex))) → AreReadyBy p table lines mutexes
    → AreReadyBy p table lines (set mutexes p (with_new_mutex (new_mutex kind protocol is_robust) (part_of mutexes p)))
ready_init p kind protocol is_robust table lines mutexes ready =
    ready_new p (least_free (part_of mutexes p)) (new_mutex kind protocol is_robust) table lines mutexes refl (idle_unlocked (Some (new_mutex kind protocol is_robust)) refl refl) (omega arith) ready

-- destroy of a mutex that is not locked and has no waiters leaves ready tables
pub ready_destroy : (p m : ℕ) (table : ThreadTable) (lines : List (List ℕ)) (mutexes : List (List (Option Mutex))) → waiters_of (pool_get (part_of mutexes p) m) ≡ [] → is_locked (pool_get (part_of mutexes p) m) ≡ false → AreReadyBy p table lines mutexes
    → AreReadyBy p table lines (set mutexes p (pool_set (part_of mutexes p) m None))
ready_destroy p m table lines mutexes unused unlocked ready =
    ready_set p m None table lines mutexes (idle_unlocked (pool_get (part_of mutexes p) m) unused unlocked) (idle_none None refl) (omega arith) ready

-- ---- fresh tables

entry_blank : {A : Type 0} (n i : ℕ) → option_flatten (slice_get (replicate {A = Option A} n None) i) ≡ None
entry_blank zero i = refl
entry_blank (suc n) zero = refl
entry_blank (suc n) (suc i) = entry_blank n i

pub pool_blank : {A : Type 0} (n k : ℕ) → pool_get (replicate {A = Option A} n None) k ≡ None
pool_blank n zero = refl
pool_blank n (suc i) = entry_blank n i

ceilings_blank : (t most n : ℕ) → fold (λ most m. max most (ceiling_for t m)) most (replicate n None) ≡ most
ceilings_blank t most zero = refl
ceilings_blank t most (suc n) = let e : max most 0 ≡ most = omega arith in ap (λ (k : ℕ). fold (λ most m. max most (ceiling_for t m)) k (replicate n None)) e ∙ ceilings_blank t most n

held_blank : (n k t : ℕ) → held_of (replicate n None) (replicate k None) t ≡ 0
held_blank n k t =
    ceilings_blank t (assigned_of (replicate n None) t) k
    ∙ ap (λ (x : Option Thread). unwrap_or (option_map (λ (thread : Thread). thread.priority) x) 0) (pool_blank n t)

greatest_zero : (rank : ℕ → ℕ) (ks : List ℕ) → ((k : ℕ) → rank k ≡ 0) → greatest rank ks ≡ 0
greatest_zero rank [] h = refl
greatest_zero rank (k ∷ ks) h = rw (h k) (greatest_zero rank ks h)

leading_zero : (n : ℕ) (next : ℕ → Option ℕ) (rank : ℕ → ℕ) (t : ℕ) → ((k : ℕ) → rank k ≡ 0) → greatest_leading n next rank t ≡ 0
leading_zero n next rank t h = greatest_zero rank (filter (λ u. leads_to next t n u) (numbers_to n)) h

map_zero : (f : ℕ → ℕ) (ks : List ℕ) → ((k : ℕ) → f k ≡ 0) → map f ks ≡ replicate (length ks) 0
map_zero f [] h = refl
map_zero f (k ∷ ks) h = rw (h k, map_zero f ks h) refl

pub effective_blank : (n k : ℕ) → effective_priorities (replicate n None) (replicate k None) ≡ replicate n 0
effective_blank n k =
    map_zero (effective_of (replicate n None) (replicate k None)) (numbers_of (replicate {A = Option Thread} n None)) (λ t. leading_zero (length (replicate {A = Option Thread} n None)) (next_in_chain (replicate n None) (replicate k None)) (held_of (replicate n None) (replicate k None)) t (held_blank n k))
    ∙ ap (λ (j : ℕ). replicate j 0) (length-numbers_to (length (replicate {A = Option Thread} n None)) ∙ length-replicate n None)

pub row_blank : {A : Type 0} (x : A) (counts : List ℕ) (p : ℕ) → p < length counts → part_of (map (filled x) counts) p ≡ replicate (get_or counts p 0) x
row_blank x counts p lt = get_or-map (filled x) counts p 0 [] lt

locked_blank : (locks : Locks) → ((m : ℕ) → mutex_at locks m ≡ None) → AreLocked locks
locked_blank locks blank = record {
  waiters = λ m k h. let no : is_in k (waiters_of None) ≡ true = subst (λ (x : Option Mutex). is_in k (waiters_of x) ≡ true) (blank m) h in absurd cc;
  counts = λ m. rw (blank m) (omega arith);
}

-- tables in which every number is free are ready at each partition
pub ready_blank : (p : ℕ) (counts limits : List ℕ) (lines : List (List ℕ)) → p < length counts → p < length limits → p < length lines → AreReadyBy p (seen (free_table counts)) lines (map (filled None) limits)
ready_blank p counts limits lines of_threads of_mutexes of_lines = record {
  part = record {
    of_threads = rw (length-map counts (filled {X = Option Thread} None)) of_threads;
    of_stored = rw (length-map counts (filled {X = ℕ} 0)) of_threads;
    of_lines = of_lines;
    of_mutexes = rw (length-map limits (filled {X = Option Mutex} None)) of_mutexes;
  };
  locked = locked_blank _ (λ m. ap (λ (row : List (Option Mutex)). pool_get row m) (row_blank None limits p of_mutexes) ∙ pool_blank (get_or limits p 0) m);
  stored = rw (row_blank {A = ℕ} 0 counts p of_threads, row_blank {A = Option Thread} None counts p of_threads, row_blank {A = Option Mutex} None limits p of_mutexes) (sym (effective_blank (get_or counts p 0) (get_or limits p 0)));
}
