-- The condition variables agree with the threads and the mutexes: what a change of threads or of a mutex leaves of it.
use Rattle.std.proofs.Common.{◌≡◌, ℕ, zero, suc, true, false, List, [], ◌∷◌, refl, sym, ◌∙◌, ap, subst, inl, inr}
use Rattle.std.specs.Prelude.{◌≢◌, IsSome, Option, Some, None, option_map, is_some, nat_eq, slice_get}
use Rattle.std.specs.Option.{option_flatten}
use Rattle.std.specs.List.{IsDistinct, list_any}
use Rattle.std.proofs.lemmas.Bool.{cases_eq, eqb-true, eq-eqb, or_parts, false≢true}
use Rattle.ptk_words.specs.Pools.{pool_get, pool_set, pool_changed, is_in}
use Rattle.ptk_words.specs.declared.threads.Thread.{Thread}
use Rattle.ptk_words.specs.declared.threads.Wait.{Wait}
use Rattle.ptk_words.specs.declared.threads.Wait.TheVariants.{InputWait, SleepWait, JoinWait, MutexWait, ConditionWait, RelockWait}
use Rattle.ptk_words.specs.declared.mutexes.Owner.{Owner}
use Rattle.ptk_words.specs.declared.mutexes.Owner.TheVariants.{Free, Abandoned, OwnedBy}
use Rattle.ptk_words.proofs.Pools.{each_changed, get-set_other}
use Rattle.ptk_words.proofs.Options.{mapped_some}
use Rattle.ptk_words_model.specs.State.{Mutex, Condition, Locks}
use Rattle.ptk_words_model.specs.Priority.{is_owner, thread_at}
use Rattle.ptk_words.specs.Threads.{mutex_of_wait, condition_of_wait}
use Rattle.ptk_words_model.specs.Mutex.{wait_of, owns}
use Rattle.ptk_words_model.specs.Condition.{mutex_of_condition_wait, is_named, names_mutex, waiters_on}
use Rattle.ptk_words_sync_invariant.specs.Conditions.{HasRoom}
pub use Rattle.ptk_words_sync_invariant.specs.Conditions.{AreConditions}
use Rattle.ptk_words_sync_invariant.proofs.Held.{IsRoomy}
use Rattle.ptk_words_sync_invariant.proofs.Rooms.{counts_owner}
use Rattle.ptk_words_sync_invariant.proofs.Moves.{counted_up}

-- ---- what a wait on a condition variable is

-- the condition variable that a thread waits on (own)
abbrev pub waits_on : Option Thread → Option ℕ
waits_on o = condition_of_wait (wait_of o)

-- the mutex that a waiter names (own)
abbrev pub names : Option Thread → Option ℕ
names o = mutex_of_condition_wait (wait_of o)

-- who waits on none names no mutex
pub off_names : (wait : Option Wait) → condition_of_wait wait ≡ None → mutex_of_condition_wait wait ≡ None
off_names None e = refl
off_names (Some InputWait) e = refl
off_names (Some (SleepWait deadline)) e = refl
off_names (Some (JoinWait u)) e = refl
off_names (Some (MutexWait m deadline)) e = refl
off_names (Some (ConditionWait c m deadline)) e = absurd (let no : ⊥ = cc in no)
off_names (Some (RelockWait m reply)) e = refl

-- the wait on a condition variable names a mutex and may have a deadline (own)
pub record IsConditionWait (c : ℕ) (wait : Option Wait) : Type 0 where
  pub mutex : ℕ
  pub deadline : Option ℕ
  pub waits : wait ≡ Some (ConditionWait c mutex deadline)

pub condition_wait : (c : ℕ) (wait : Option Wait) → condition_of_wait wait ≡ Some c → IsConditionWait c wait
condition_wait c None e = absurd (let no : ⊥ = cc in no)
condition_wait c (Some InputWait) e = absurd (let no : ⊥ = cc in no)
condition_wait c (Some (SleepWait deadline)) e = absurd (let no : ⊥ = cc in no)
condition_wait c (Some (JoinWait u)) e = absurd (let no : ⊥ = cc in no)
condition_wait c (Some (MutexWait m deadline)) e = absurd (let no : ⊥ = cc in no)
condition_wait c (Some (ConditionWait d m deadline)) e = let same : d ≡ c = cc in record { mutex = m; deadline = deadline; waits = ap (λ n. Some (ConditionWait n m deadline)) same }
condition_wait c (Some (RelockWait m reply)) e = absurd (let no : ⊥ = cc in no)

-- who waits for a mutex waits on none
pub awaits_off : (m : ℕ) (wait : Option Wait) → mutex_of_wait wait ≡ Some m → condition_of_wait wait ≡ None
awaits_off m None e = refl
awaits_off m (Some InputWait) e = refl
awaits_off m (Some (SleepWait deadline)) e = refl
awaits_off m (Some (JoinWait u)) e = refl
awaits_off m (Some (MutexWait n deadline)) e = refl
awaits_off m (Some (ConditionWait c n deadline)) e = absurd (let no : ⊥ = cc in no)
awaits_off m (Some (RelockWait n reply)) e = refl

-- ---- each condition variable, and all of them

-- the waiters of the condition variable of a number are the threads that wait on it, none of them twice (pthread_cond_wait)
pub record IsGathered (threads : List (Option Thread)) (c : ℕ) (x : Option Condition) : Type 0 where
  pub waiters_wait : (t : ℕ) → is_in t (waiters_on x) ≡ true → waits_on (pool_get threads t) ≡ Some c
  pub waits_listed : (t : ℕ) → waits_on (pool_get threads t) ≡ Some c → is_in t (waiters_on x) ≡ true
  pub waiters_distinct : IsDistinct nat_eq (waiters_on x)

-- the mutex that a waiter names is in use, and has room for its re-lock (pthread_cond_wait)
pub record AreReturnable (threads : List (Option Thread)) (mutexes : List (Option Mutex)) : Type 0 where
  pub used : (t m : ℕ) → names (pool_get threads t) ≡ Some m → IsSome (pool_get mutexes m)
  pub room : (t m : ℕ) → names (pool_get threads t) ≡ Some m → HasRoom t (pool_get mutexes m)

pub gathered_at : (threads : List (Option Thread)) (mutexes : List (Option Mutex)) (conditions : List (Option Condition)) → AreConditions threads mutexes conditions → (c : ℕ) → IsGathered threads c (pool_get conditions c)
gathered_at threads mutexes conditions are c = record { waiters_wait = are.waiters_wait c; waits_listed = are.waits_listed c; waiters_distinct = are.waiters_distinct c }

pub returnable_of : (threads : List (Option Thread)) (mutexes : List (Option Mutex)) (conditions : List (Option Condition)) → AreConditions threads mutexes conditions → AreReturnable threads mutexes
returnable_of threads mutexes conditions are = record { used = are.named_used; room = are.room }

pub conditions_from : (threads : List (Option Thread)) (mutexes : List (Option Mutex)) (conditions : List (Option Condition)) → ((c : ℕ) → IsGathered threads c (pool_get conditions c)) → AreReturnable threads mutexes → AreConditions threads mutexes conditions
conditions_from threads mutexes conditions each returnable = record {
  waiters_wait = λ c. (each c).waiters_wait;
  waits_listed = λ c. (each c).waits_listed;
  waiters_distinct = λ c. (each c).waiters_distinct;
  named_used = returnable.used;
  room = returnable.room;
}

-- ---- no wait on a condition variable begins or ends

-- each thread waits on the condition variable that it did, and names the mutex that it did (own)
pub record AreSameOn (before after : List (Option Thread)) : Type 0 where
  pub on : (t : ℕ) → waits_on (pool_get after t) ≡ waits_on (pool_get before t)
  pub named : (t : ℕ) → names (pool_get after t) ≡ names (pool_get before t)

pub conditions_same : (before after : List (Option Thread)) (mutexes : List (Option Mutex)) (conditions : List (Option Condition)) → AreSameOn before after → AreConditions before mutexes conditions → AreConditions after mutexes conditions
conditions_same before after mutexes conditions same are = record {
  waiters_wait = λ c t e. same.on t ∙ are.waiters_wait c t e;
  waits_listed = λ c t e. are.waits_listed c t (sym (same.on t) ∙ e);
  waiters_distinct = are.waiters_distinct;
  named_used = λ t m e. are.named_used t m (sym (same.named t) ∙ e);
  room = λ t m e. are.room t m (sym (same.named t) ∙ e);
}

-- every thread has the wait that it had
pub same_on_waits : (before after : List (Option Thread)) → ((t : ℕ) → wait_of (pool_get after t) ≡ wait_of (pool_get before t)) → AreSameOn before after
same_on_waits before after waits = record { on = λ t. ap condition_of_wait (waits t); named = λ t. ap mutex_of_condition_wait (waits t) }

-- every thread but one has the wait that it had (own)
abbrev pub AreOtherWaits : ℕ → List (Option Thread) → List (Option Thread) → Type 0
AreOtherWaits t before after = (u : ℕ) → u ≢ t → wait_of (pool_get after u) ≡ wait_of (pool_get before u)

-- one thread waits on none, before and after
pub same_on_off : (t : ℕ) (before after : List (Option Thread)) → AreOtherWaits t before after → waits_on (pool_get before t) ≡ None → waits_on (pool_get after t) ≡ None → AreSameOn before after
same_on_off t before after others was now = record {
  on = λ u. elim (cases_eq u t) [ inl same ↦ (rw same (now ∙ sym was)) | inr ne ↦ ap condition_of_wait (others u ne) ];
  named = λ u. elim (cases_eq u t) [
    | inl same ↦ (rw same (off_names (wait_of (pool_get after t)) now ∙ sym (off_names (wait_of (pool_get before t)) was)))
    | inr ne ↦ ap mutex_of_condition_wait (others u ne)
  ];
}

pub conditions_off : (t : ℕ) (before after : List (Option Thread)) (mutexes : List (Option Mutex)) (conditions : List (Option Condition)) → AreOtherWaits t before after → waits_on (pool_get before t) ≡ None → waits_on (pool_get after t) ≡ None
    → AreConditions before mutexes conditions → AreConditions after mutexes conditions
conditions_off t before after mutexes conditions others was now are = conditions_same before after mutexes conditions (same_on_off t before after others was now) are

-- ---- one mutex changed

pub room_map : (k : ℕ) (f : Mutex → Mutex) (o : Option Mutex) → IsRoomy f → HasRoom k o → HasRoom k (option_map f o)
room_map k f None roomy room = room
room_map k f (Some x) roomy room = roomy x k room

-- f leaves room
pub conditions_mutex : (m : ℕ) (f : Mutex → Mutex) (threads : List (Option Thread)) (mutexes : List (Option Mutex)) (conditions : List (Option Condition)) → IsRoomy f
    → AreConditions threads mutexes conditions → AreConditions threads (pool_changed m f mutexes) conditions
conditions_mutex m f threads mutexes conditions roomy are = record {
  waiters_wait = are.waiters_wait;
  waits_listed = are.waits_listed;
  waiters_distinct = are.waiters_distinct;
  named_used = λ t n. each_changed (λ (j : ℕ) (o : Option Mutex). names (pool_get threads t) ≡ Some j → IsSome o) m f mutexes (λ e. mapped_some f (pool_get mutexes m) (are.named_used t m e)) (λ j ne. are.named_used t j) n;
  room = λ t n. each_changed (λ (j : ℕ) (o : Option Mutex). names (pool_get threads t) ≡ Some j → HasRoom t o) m f mutexes (λ e. room_map t f (pool_get mutexes m) roomy (are.room t m e)) (λ j ne. are.room t j) n;
}

pub same_owner : (owner : Owner) (t k : ℕ) → is_owner t owner ≡ true → is_owner k owner ≡ true → k ≡ t
same_owner Free t k own other = absurd (false≢true own)
same_owner Abandoned t k own other = absurd (false≢true own)
same_owner (OwnedBy u) t k own other = sym (eqb-true u k other) ∙ eqb-true u t own

room_counted : (t k : ℕ) (o : Option Mutex) → owns t o ≡ true → k ≢ t → HasRoom k (option_map counted_up o)
room_counted t k None own ne = absurd (false≢true own)
room_counted t k (Some x) own ne = λ counts. absurd (ne (same_owner x.owner t k own (counts_owner k (counted_up x) counts)))

-- its owner, which waits on no condition variable, counts it up
pub conditions_counted : (t m : ℕ) (threads : List (Option Thread)) (mutexes : List (Option Mutex)) (conditions : List (Option Condition)) → owns t (pool_get mutexes m) ≡ true → waits_on (pool_get threads t) ≡ None
    → AreConditions threads mutexes conditions → AreConditions threads (pool_changed m counted_up mutexes) conditions
conditions_counted t m threads mutexes conditions own off are = record {
  waiters_wait = are.waiters_wait;
  waits_listed = are.waits_listed;
  waiters_distinct = are.waiters_distinct;
  named_used = λ k n. each_changed (λ (j : ℕ) (o : Option Mutex). names (pool_get threads k) ≡ Some j → IsSome o) m counted_up mutexes (λ e. mapped_some counted_up (pool_get mutexes m) (are.named_used k m e)) (λ j ne. are.named_used k j) n;
  room = λ k n. each_changed (λ (j : ℕ) (o : Option Mutex). names (pool_get threads k) ≡ Some j → HasRoom k o) m counted_up mutexes
      (λ e. room_counted t k (pool_get mutexes m) own (λ same.
      let none : names (pool_get threads k) ≡ None = ap (λ v. names (pool_get threads v)) same ∙ off_names (wait_of (pool_get threads t)) off in
      let no : ⊥ = cc in no)) (λ j ne. are.room k j) n;
}

-- the mutex of a number that no waiter names is set, or its number gets free
pub conditions_unnamed : (m : ℕ) (o : Option Mutex) (threads : List (Option Thread)) (mutexes : List (Option Mutex)) (conditions : List (Option Condition)) → ((t : ℕ) → names (pool_get threads t) ≢ Some m)
    → AreConditions threads mutexes conditions → AreConditions threads (pool_set mutexes m o) conditions
conditions_unnamed m o threads mutexes conditions unnamed are =
    let other : (t n : ℕ) → names (pool_get threads t) ≡ Some n → pool_get (pool_set mutexes m o) n ≡ pool_get mutexes n = λ t n e. get-set_other m n o mutexes (λ same. unnamed t (e ∙ ap Some same)) in
    record {
      waiters_wait = are.waiters_wait;
      waits_listed = are.waits_listed;
      waiters_distinct = are.waiters_distinct;
      named_used = λ t n e. subst (λ (x : Option Mutex). IsSome x) (sym (other t n e)) (are.named_used t n e);
      room = λ t n e. subst (λ (x : Option Mutex). HasRoom t x) (sym (other t n e)) (are.room t n e);
    }

-- a free number is named by none
pub free_unnamed : (m : ℕ) (threads : List (Option Thread)) (mutexes : List (Option Mutex)) (conditions : List (Option Condition)) → pool_get mutexes m ≡ None → AreConditions threads mutexes conditions
    → (t : ℕ) → names (pool_get threads t) ≢ Some m
free_unnamed m threads mutexes conditions free are t e = false≢true (sym (ap is_some free) ∙ are.named_used t m e)

named_test : (m : ℕ) (o : Option ℕ) → o ≡ Some m → is_named m o ≡ true
named_test m None e = absurd (let no : ⊥ = cc in no)
named_test m (Some n) e = eq-eqb n m (let same : n ≡ m = cc in same)

none_names : (m i : ℕ) (threads : List (Option Thread)) → list_any (λ thread. is_named m (mutex_of_condition_wait (wait_of thread))) threads ≡ false → names (option_flatten (slice_get threads i)) ≢ Some m
none_names m i [] none e = let no : ⊥ = cc in no
none_names m zero (thread ∷ threads) none e =
    false≢true (sym (or_parts (is_named m (names thread)) (list_any (λ thread. is_named m (mutex_of_condition_wait (wait_of thread))) threads) none).0 ∙ named_test m (names thread) e)
none_names m (suc i) (thread ∷ threads) none e =
    none_names m i threads (or_parts (is_named m (names thread)) (list_any (λ thread. is_named m (mutex_of_condition_wait (wait_of thread))) threads) none).1 e

-- a mutex that no waiter names, as pthread_mutex_destroy tests it
pub unnamed : (m : ℕ) (locks : Locks) → names_mutex locks m ≡ false → (t : ℕ) → names (thread_at locks t) ≢ Some m
unnamed m locks none zero e = let no : ⊥ = cc in no
unnamed m locks none (suc i) e = none_names m i locks.threads none e
