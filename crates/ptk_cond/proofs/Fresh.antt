-- That tables stay as the calls need them where the number of a condition variable is taken or freed.
use Rattle.std.proofs.Common.{◌≡◌, ℕ, ◌<◌, List, [], length, refl, sym, ◌∙◌, ap, subst, true}
use Rattle.std.specs.Prelude.{Option, Some, None, option_map, unwrap_or}
use Rattle.std.proofs.Math.ListN.{set}
use Rattle.std.proofs.lemmas.List.{length-set}
use Rattle.ptk_words.specs.Pools.{pool_get, pool_set, is_in, least_free}
use Rattle.ptk_words.proofs.Pools.{least_free_none}
use Rattle.ptk_words.specs.Parts.{part_of}
use Rattle.ptk_words.proofs.Cuts.{set_part-same}
use Rattle.ptk_words_model.specs.State.{Condition, Mutex}
use Rattle.ptk_words_model.specs.Condition.{waiters_on}
use Rattle.ptk_threads.specs.Table.{ThreadTable}
use Rattle.ptk_threads.proofs.Pools.{part_of-set}
use Rattle.ptk_mutex.specs.SyncRosters.{Rostered}
use Rattle.ptk_mutex.specs.Waiters.{condition_of}
use Rattle.ptk_words_sync_invariant.proofs.MutexPlaces.{pool_set_same}
use Rattle.ptk_mutex.specs.Sound.{IsSound}
use Rattle.ptk_cond.proofs.Steps.{of_part, AreSyncedAt, put_none, sound_put}
use Rattle.ptk_cond.specs.Pool.{with_new_condition}
use Rattle.ptk_cond.specs.Tables.{put_syncs, AreSyncedBy}

-- ---- one entry without waiters in another's place

synced_set : (p c : ℕ) (x : Option Condition) (table : ThreadTable) (lines : List (List ℕ)) (mutexes : List (List (Option Mutex))) (conditions : List (List (Option Condition))) → waiters_on (pool_get (part_of conditions p) c) ≡ [] → waiters_on x ≡ [] → AreSyncedBy p table lines mutexes conditions
    → AreSyncedBy p table lines mutexes (set conditions p (pool_set (part_of conditions p) c x))
synced_set p c x table lines mutexes conditions was idle synced =
    let row : List (Option Condition) = pool_set (part_of conditions p) c x in
    record {
      ready = synced.ready;
      of_conditions = rw length-set synced.of_conditions;
      waiting = record {
        waiters = λ d k h.
            let here : is_in k (waiters_on (pool_get row d)) ≡ true = subst (λ (l : List (Option Condition)). is_in k (waiters_on (pool_get l d)) ≡ true) (part_of-set conditions p row synced.of_conditions) h in
            let old : is_in k (waiters_on (pool_get (part_of conditions p) d)) ≡ true = subst (λ (ks : List ℕ). is_in k ks ≡ true) (pool_set_same waiters_on (part_of conditions p) c d x (idle ∙ sym was)) here in
            synced.waiting.waiters d k old;
      };
    }

synced_new : (p : ℕ) (o : Option ℕ) (table : ThreadTable) (lines : List (List ℕ)) (mutexes : List (List (Option Mutex))) (conditions : List (List (Option Condition))) → least_free (part_of conditions p) ≡ o → AreSyncedBy p table lines mutexes conditions
    → AreSyncedBy p table lines mutexes (set conditions p (unwrap_or (option_map (λ c. pool_set (part_of conditions p) c (Some (condition_of []))) o) (part_of conditions p)))
synced_new p None table lines mutexes conditions e synced = rw (set_part-same conditions p) synced
synced_new p (Some c) table lines mutexes conditions e synced =
    synced_set p c (Some (condition_of [])) table lines mutexes conditions (ap waiters_on (least_free_none (part_of conditions p) c e)) refl synced

-- init leaves the tables so
pub synced_init : (p : ℕ) (table : ThreadTable) (lines : List (List ℕ)) (mutexes : List (List (Option Mutex))) (conditions : List (List (Option Condition))) → AreSyncedBy p table lines mutexes conditions
    → AreSyncedBy p table lines mutexes (set conditions p (with_new_condition (part_of conditions p)))
synced_init p table lines mutexes conditions synced = synced_new p (least_free (part_of conditions p)) table lines mutexes conditions refl synced

-- destroy of a condition variable without waiters leaves the tables so
pub synced_destroy : (p c : ℕ) (table : ThreadTable) (lines : List (List ℕ)) (mutexes : List (List (Option Mutex))) (conditions : List (List (Option Condition))) → waiters_on (pool_get (part_of conditions p) c) ≡ [] → AreSyncedBy p table lines mutexes conditions
    → AreSyncedBy p table lines mutexes (set conditions p (pool_set (part_of conditions p) c None))
synced_destroy p c table lines mutexes conditions unused synced = synced_set p c None table lines mutexes conditions unused refl synced

-- ---- the whole roster

-- with these condition variables of a partition
sound_set : (p : ℕ) (row : List (Option Condition)) (a b : Rostered) → b ≡ record a { conditions = set a.conditions p row } → p < length a.table.threads → (AreSyncedAt p a → AreSyncedBy p a.table a.lines a.mutexes (set a.conditions p row)) → IsSound a → IsSound b
sound_set p row a b e lt keeps sound =
    let synced : AreSyncedAt p a = sound.synced p lt in
    let here : record a { conditions = set a.conditions p row } ≡ record (put_syncs p (of_part p a) a) { conditions = set a.conditions p row } =
    ap (λ (r : Rostered). record r { conditions = set a.conditions p row }) (put_none p a synced) in
    sound_put p a b (record { locks = (of_part p a).locks; conditions = row }) (e ∙ here) (subst (λ (r : Rostered). AreSyncedAt p r) (sym e) (keeps synced)) sound

pub sound_init : (p : ℕ) (a b : Rostered) → b ≡ record a { conditions = set a.conditions p (with_new_condition (part_of a.conditions p)) } → p < length a.table.threads → IsSound a → IsSound b
sound_init p a b e lt sound = sound_set p (with_new_condition (part_of a.conditions p)) a b e lt (synced_init p a.table a.lines a.mutexes a.conditions) sound

pub sound_destroy : (p c : ℕ) (a b : Rostered) → waiters_on (pool_get (part_of a.conditions p) c) ≡ [] → b ≡ record a { conditions = set a.conditions p (pool_set (part_of a.conditions p) c None) } → p < length a.table.threads → IsSound a → IsSound b
sound_destroy p c a b unused e lt sound = sound_set p (pool_set (part_of a.conditions p) c None) a b e lt (synced_destroy p c a.table a.lines a.mutexes a.conditions unused) sound
