-- Stored priorities stay the effective ones where threads change.
use Rattle.std.proofs.Common.{◌≡◌, ◌≢◌, ℕ, ◌<◌, List, [], length, refl, sym, ◌∙◌, ap, ◌⊎◌, inl, inr, subst}
use Rattle.std.specs.Prelude.{false, Option, Some, None, is_some, option_map, option_and_then}
use Rattle.std.proofs.Math.ListN.{set}
use Rattle.std.proofs.lemmas.Bool.{cases_eq}
use Rattle.std.proofs.lemmas.List.{get_or-set_other, length-set}
use Rattle.ptk_words.specs.Pools.{pool_get, pool_set, pool_changed}
use Rattle.ptk_words.specs.declared.threads.Thread.{Thread}
use Rattle.ptk_words.specs.declared.threads.Wait.{Wait}
use Rattle.ptk_words.proofs.Options.{none_if_not_some}
use Rattle.ptk_words.specs.Parts.{part_of}
use Rattle.ptk_words.proofs.Entries.{own_row}
use Rattle.ptk_words_model.specs.State.{Mutex}
use Rattle.ptk_words_model.specs.Priority.{awaited, effective_priorities}
use Rattle.ptk_words.specs.Threads.{mutex_of_wait}
use Rattle.ptk_threads.specs.Table.{ThreadTable, thread_in, stored_left, with_changed, with_slot, with_left}
use Rattle.ptk_threads.proofs.Pools.{part_of-set}
use Rattle.ptk_cond.proofs.Priorities.{level, priorities_changed, level_kept, awaited_kept}
use Rattle.ptk_gate_pools.specs.Kept.{AreStored}

-- ---- a change that no priority reads

changed_row : (p q k : ℕ) (f : Thread → Thread) (stored : List (List ℕ)) (threads : List (List (Option Thread))) (mutexes : List (List (Option Mutex)))
    → effective_priorities (pool_changed k f (part_of threads p)) (part_of mutexes p) ≡ effective_priorities (part_of threads p) (part_of mutexes p) → AreStored stored threads mutexes
    → (q ≡ p) ⊎ (q ≢ p) → part_of stored q ≡ effective_priorities (part_of (set threads p (pool_changed k f (part_of threads p))) q) (part_of mutexes q)
changed_row p q k f stored threads mutexes same are (inl e) =
    subst (λ (i : ℕ). part_of stored i ≡ effective_priorities (part_of (set threads p (pool_changed k f (part_of threads p))) i) (part_of mutexes i)) (sym e)
    (are.each p ∙ sym same ∙ ap (λ (row : List (Option Thread)). effective_priorities row (part_of mutexes p)) (sym (own_row threads p k (option_map f (pool_get (part_of threads p) k)))))
changed_row p q k f stored threads mutexes same are (inr ne) =
    are.each q ∙ ap (λ (row : List (Option Thread)). effective_priorities row (part_of mutexes q)) (sym (get_or-set_other threads p q (pool_changed k f (part_of threads p)) [] ne))

stored_same : (p k : ℕ) (f : Thread → Thread) (table new : ThreadTable) (mutexes : List (List (Option Mutex))) → new ≡ with_changed p k f table
    → level (option_map f (thread_in table p k)) ≡ level (thread_in table p k) → awaited (option_map f (thread_in table p k)) ≡ awaited (thread_in table p k)
    → AreStored table.stored table.threads mutexes → AreStored new.stored new.threads mutexes
stored_same p k f table new mutexes e levels waits are =
    rw e (record {
      each = λ q. changed_row p q k f table.stored table.threads mutexes (priorities_changed k f (part_of table.threads p) (part_of mutexes p) levels waits) are (cases_eq q p);
    })

-- a thread is changed, and keeps its assigned priority and the mutex that it waits for
pub stored_changed : (p k : ℕ) (f : Thread → Thread) (table new : ThreadTable) (mutexes : List (List (Option Mutex))) → new ≡ with_changed p k f table
    → ((thread : Thread) → (f thread).priority ≡ thread.priority) → ((thread : Thread) → mutex_of_wait (f thread).wait ≡ mutex_of_wait thread.wait)
    → AreStored table.stored table.threads mutexes → AreStored new.stored new.threads mutexes
stored_changed p k f table new mutexes e priority wait are =
    stored_same p k f table new mutexes e (level_kept f (thread_in table p k) priority) (awaited_kept f (thread_in table p k) wait) are

-- the same of the table as it is written
pub stored_with : (p k : ℕ) (f : Thread → Thread) (table : ThreadTable) (mutexes : List (List (Option Mutex))) → ((thread : Thread) → (f thread).priority ≡ thread.priority) → ((thread : Thread) → mutex_of_wait (f thread).wait ≡ mutex_of_wait thread.wait)
    → AreStored table.stored table.threads mutexes → AreStored table.stored (set table.threads p (pool_changed k f (part_of table.threads p))) mutexes
stored_with p k f table mutexes priority wait are = stored_changed p k f table (with_changed p k f table) mutexes refl priority wait are

wait_entry : (f : Thread → Thread) (x : Option Thread) → ((thread : Thread) → mutex_of_wait (f thread).wait ≡ None) → mutex_of_wait (option_and_then (λ (thread : Thread). thread.wait) x) ≡ None → awaited (option_map f x) ≡ awaited x
wait_entry f None wait was = refl
wait_entry f (Some thread) wait was = wait thread ∙ sym was

-- a thread waits for something else, neither time for a mutex
pub stored_wait : (p k : ℕ) (f : Thread → Thread) (old : Option Wait) (table new : ThreadTable) (mutexes : List (List (Option Mutex))) → new ≡ with_changed p k f table → ((thread : Thread) → (f thread).priority ≡ thread.priority) → ((thread : Thread) → mutex_of_wait (f thread).wait ≡ None)
    → old ≡ option_and_then (λ (thread : Thread). thread.wait) (thread_in table p k) → is_some (mutex_of_wait old) ≡ false → AreStored table.stored table.threads mutexes → AreStored new.stored new.threads mutexes
stored_wait p k f old table new mutexes e priority wait was before are =
    let none : mutex_of_wait (option_and_then (λ (thread : Thread). thread.wait) (thread_in table p k)) ≡ None = ap mutex_of_wait (sym was) ∙ none_if_not_some (mutex_of_wait old) before in
    stored_same p k f table new mutexes e (level_kept f (thread_in table p k) priority) (wait_entry f (thread_in table p k) wait none) are

pub ruleset stored = (stored_changed, stored_with)

-- ---- a partition's priorities computed again

-- every other partition's threads and stored priorities are as they were
record AreElsewhere (p : ℕ) (table after : ThreadTable) : Type 0 where
  pub long : length after.stored ≡ length table.stored
  pub stored : (q : ℕ) → q ≢ p → part_of after.stored q ≡ part_of table.stored q
  pub threads : (q : ℕ) → q ≢ p → part_of after.threads q ≡ part_of table.threads q

-- the stored priorities of a partition are its effective ones
abbrev computed : ℕ → List (List (Option Mutex)) → ThreadTable → ThreadTable
computed p mutexes table = record table { stored = set table.stored p (effective_priorities (part_of table.threads p) (part_of mutexes p)) }

computed_row : (p q : ℕ) (table mid : ThreadTable) (mutexes : List (List (Option Mutex))) → p < length table.stored → AreElsewhere p table mid → AreStored table.stored table.threads mutexes → (q ≡ p) ⊎ (q ≢ p)
    → part_of (computed p mutexes mid).stored q ≡ effective_priorities (part_of mid.threads q) (part_of mutexes q)
computed_row p q table mid mutexes lt elsewhere are (inl e) =
    let within : p < length mid.stored = rw elsewhere.long lt in
    subst (λ (i : ℕ). part_of (computed p mutexes mid).stored i ≡ effective_priorities (part_of mid.threads i) (part_of mutexes i)) (sym e)
    (part_of-set mid.stored p (effective_priorities (part_of mid.threads p) (part_of mutexes p)) within)
computed_row p q table mid mutexes lt elsewhere are (inr ne) =
    get_or-set_other mid.stored p q (effective_priorities (part_of mid.threads p) (part_of mutexes p)) [] ne ∙ elsewhere.stored q ne ∙ are.each q
    ∙ ap (λ (row : List (Option Thread)). effective_priorities row (part_of mutexes q)) (sym (elsewhere.threads q ne))

stored_computed : (p : ℕ) (table mid new : ThreadTable) (mutexes : List (List (Option Mutex))) → p < length table.stored → AreElsewhere p table mid → new ≡ computed p mutexes mid
    → AreStored table.stored table.threads mutexes → AreStored new.stored new.threads mutexes
stored_computed p table mid new mutexes lt elsewhere e are = rw e (record { each = λ q. computed_row p q table mid mutexes lt elsewhere are (cases_eq q p) })

-- an entry was written
pub refreshed_slot : (p k n : ℕ) (slot : Option Thread) (table mid new : ThreadTable) (mutexes : List (List (Option Mutex))) → mid ≡ with_slot p k slot n table
    → new ≡ record mid { stored = set mid.stored p (effective_priorities (part_of mid.threads p) (part_of mutexes p)) } → p < length table.stored → AreStored table.stored table.threads mutexes → AreStored new.stored new.threads mutexes
refreshed_slot p k n slot table mid new mutexes e again lt are =
    stored_computed p table mid new mutexes lt
    (rw e (record {
      long = length-set table.stored p (pool_set (part_of table.stored p) k n);
      stored = λ q ne. get_or-set_other table.stored p q (pool_set (part_of table.stored p) k n) [] ne;
      threads = λ q ne. get_or-set_other table.threads p q (pool_set (part_of table.threads p) k slot) [] ne;
    })) again are

-- a thread was changed
pub refreshed_changed : (p k : ℕ) (f : Thread → Thread) (table mid new : ThreadTable) (mutexes : List (List (Option Mutex))) → mid ≡ with_changed p k f table
    → new ≡ record mid { stored = set mid.stored p (effective_priorities (part_of mid.threads p) (part_of mutexes p)) } → p < length table.stored → AreStored table.stored table.threads mutexes → AreStored new.stored new.threads mutexes
refreshed_changed p k f table mid new mutexes e again lt are =
    stored_computed p table mid new mutexes lt
    (rw e (record {
      long = refl;
      stored = λ q ne. refl;
      threads = λ q ne. get_or-set_other table.threads p q (pool_changed k f (part_of table.threads p)) [] ne;
    })) again are

pub left_long : (p k : ℕ) (rest : Option Thread) (stored : List (List ℕ)) → length (stored_left p k rest stored) ≡ length stored
left_long p k None stored = length-set stored p (pool_set (part_of stored p) k 0)
left_long p k (Some thread) stored = refl

left_other : (p q k : ℕ) (rest : Option Thread) (stored : List (List ℕ)) → q ≢ p → part_of (stored_left p k rest stored) q ≡ part_of stored q
left_other p q k None stored ne = get_or-set_other stored p q (pool_set (part_of stored p) k 0) [] ne
left_other p q k (Some thread) stored ne = refl

-- a thread has left what f leaves
pub refreshed_left : (p k : ℕ) (f : Thread → Option Thread) (table mid new : ThreadTable) (mutexes : List (List (Option Mutex))) → mid ≡ with_left p k f table
    → new ≡ record mid { stored = set mid.stored p (effective_priorities (part_of mid.threads p) (part_of mutexes p)) } → p < length table.stored → AreStored table.stored table.threads mutexes → AreStored new.stored new.threads mutexes
refreshed_left p k f table mid new mutexes e again lt are =
    let rest : Option Thread = option_and_then f (thread_in table p k) in
    stored_computed p table mid new mutexes lt
    (rw e (record {
      long = left_long p k rest table.stored;
      stored = λ q ne. left_other p q k rest table.stored ne;
      threads = λ q ne. get_or-set_other table.threads p q (pool_set (part_of table.threads p) k rest) [] ne;
    })) again are

pub ruleset refreshed = (refreshed_slot, refreshed_changed, refreshed_left)
