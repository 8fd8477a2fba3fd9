-- A number that a mutex takes or leaves: stored priorities stay the effective ones, since a mutex that is not locked raises nobody.
use Rattle.std.proofs.Common.{◌≡◌, ◌≢◌, ℕ, List, [], refl, sym, ◌∙◌, ap, ◌⊎◌, inl, inr, subst}
use Rattle.std.specs.Prelude.{Bool, false, Option, Some, None, option_map, unwrap_or}
use Rattle.std.proofs.Math.ListN.{set}
use Rattle.std.proofs.lemmas.Bool.{cases_eq}
use Rattle.std.proofs.lemmas.List.{get_or-set_other}
use Rattle.ptk_words.specs.Pools.{pool_get, pool_set, least_free}
use Rattle.ptk_words.specs.declared.mutexes.MutexKind.{MutexKind}
use Rattle.ptk_words.specs.declared.mutexes.Protocol.{Protocol}
use Rattle.ptk_words.specs.declared.threads.Thread.{Thread}
use Rattle.ptk_words.proofs.Pools.{least_free_none}
use Rattle.ptk_words.specs.Parts.{part_of}
use Rattle.ptk_words.proofs.Entries.{own_row}
use Rattle.ptk_words_model.specs.State.{Mutex}
use Rattle.ptk_words_model.specs.Priority.{effective_priorities}
use Rattle.ptk_words_model.specs.Mutex.{new_mutex, waiters_of}
use Rattle.ptk_words_model.specs.MutexCalls.{is_locked}
use Rattle.ptk_cond.specs.LockPool.{with_new_mutex}
use Rattle.ptk_cond.proofs.Ready.{IsIdle, idle_none, idle_unlocked, effective_set}
use Rattle.ptk_gate_pools.specs.Kept.{AreStored}

-- ---- one in place of another

set_row : (p q m : ℕ) (x : Option Mutex) (stored : List (List ℕ)) (threads : List (List (Option Thread))) (mutexes : List (List (Option Mutex)))
    → effective_priorities (part_of threads p) (pool_set (part_of mutexes p) m x) ≡ effective_priorities (part_of threads p) (part_of mutexes p) → AreStored stored threads mutexes
    → (q ≡ p) ⊎ (q ≢ p) → part_of stored q ≡ effective_priorities (part_of threads q) (part_of (set mutexes p (pool_set (part_of mutexes p) m x)) q)
set_row p q m x stored threads mutexes same are (inl e) =
    subst (λ (i : ℕ). part_of stored i ≡ effective_priorities (part_of threads i) (part_of (set mutexes p (pool_set (part_of mutexes p) m x)) i)) (sym e)
    (are.each p ∙ sym same ∙ ap (effective_priorities (part_of threads p)) (sym (own_row mutexes p m x)))
set_row p q m x stored threads mutexes same are (inr ne) =
    are.each q ∙ ap (effective_priorities (part_of threads q)) (sym (get_or-set_other mutexes p q (pool_set (part_of mutexes p) m x) [] ne))

-- with which each effective priority is as before
pub stored_put : (p m : ℕ) (x : Option Mutex) (stored : List (List ℕ)) (threads : List (List (Option Thread))) (mutexes new : List (List (Option Mutex)))
    → effective_priorities (part_of threads p) (pool_set (part_of mutexes p) m x) ≡ effective_priorities (part_of threads p) (part_of mutexes p)
    → new ≡ set mutexes p (pool_set (part_of mutexes p) m x) → AreStored stored threads mutexes → AreStored stored threads new
stored_put p m x stored threads mutexes new same e are = rw e (record { each = λ q. set_row p q m x stored threads mutexes same are (cases_eq q p) })

stored_set : (p m : ℕ) (x : Option Mutex) (stored : List (List ℕ)) (threads : List (List (Option Thread))) (mutexes new : List (List (Option Mutex))) → IsIdle x → IsIdle (pool_get (part_of mutexes p) m)
    → new ≡ set mutexes p (pool_set (part_of mutexes p) m x) → AreStored stored threads mutexes → AreStored stored threads new
stored_set p m x stored threads mutexes new after before e are = stored_put p m x stored threads mutexes new (effective_set (part_of threads p) (part_of mutexes p) m x before after) e are

-- ---- a new mutex, and one that goes

-- the least free number is the mutex's
pub opened_at : (p m : ℕ) (mutex : Mutex) (mutexes new : List (List (Option Mutex))) → least_free (part_of mutexes p) ≡ Some m → new ≡ set mutexes p (with_new_mutex mutex (part_of mutexes p)) → new ≡ set mutexes p (pool_set (part_of mutexes p) m (Some mutex))
opened_at p m mutex mutexes new free e =
    e ∙ ap (λ (o : Option ℕ). set mutexes p (unwrap_or (option_map (λ k. pool_set (part_of mutexes p) k (Some mutex)) o) (part_of mutexes p))) free

pub stored_opened : (p m : ℕ) (kind : MutexKind) (protocol : Protocol) (is_robust : Bool) (stored : List (List ℕ)) (threads : List (List (Option Thread))) (mutexes new : List (List (Option Mutex))) → least_free (part_of mutexes p) ≡ Some m
    → new ≡ set mutexes p (with_new_mutex (new_mutex kind protocol is_robust) (part_of mutexes p)) → AreStored stored threads mutexes → AreStored stored threads new
stored_opened p m kind protocol is_robust stored threads mutexes new free e are =
    stored_set p m (Some (new_mutex kind protocol is_robust)) stored threads mutexes new (idle_unlocked (Some (new_mutex kind protocol is_robust)) refl refl)
    (idle_none (pool_get (part_of mutexes p) m) (least_free_none (part_of mutexes p) m free)) (opened_at p m (new_mutex kind protocol is_robust) mutexes new free e) are

pub stored_closed : (p m : ℕ) (stored : List (List ℕ)) (threads : List (List (Option Thread))) (mutexes new : List (List (Option Mutex))) → is_locked (pool_get (part_of mutexes p) m) ≡ false → waiters_of (pool_get (part_of mutexes p) m) ≡ []
    → new ≡ set mutexes p (pool_set (part_of mutexes p) m None) → AreStored stored threads mutexes → AreStored stored threads new
stored_closed p m stored threads mutexes new unlocked unwaited e are =
    stored_set p m None stored threads mutexes new (idle_none None refl) (idle_unlocked (pool_get (part_of mutexes p) m) unwaited unlocked) e are

pub ruleset vacant = (opened_at, stored_opened, stored_closed)
