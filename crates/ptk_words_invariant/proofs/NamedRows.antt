-- The words of mutexes and condition variables, and what a call does with what they name.
use Rattle.std.proofs.Common.{◌≡◌, ℕ, true, false, [], length, refl, ap}
use Rattle.std.specs.Prelude.{IsSome, Option, Some, None, ◌==◌, is_some, option_map, unwrap_or}
use Rattle.ptk_words.specs.Pools.{pool_get, pool_set, least_free}
use Rattle.ptk_words.specs.Words.{word_at}
use Rattle.ptk_words.specs.declared.faults.Errno.TheVariants.{ENOMEM, EINVAL}
use Rattle.ptk_words.specs.declared.mutexes.MutexKind.TheVariants.{Normal}
use Rattle.ptk_words.specs.declared.mutexes.Protocol.TheVariants.{NoProtocol}
use Rattle.ptk_words.specs.declared.sections.Limits.{Limits}
use Rattle.ptk_words.proofs.Pools.{length-pool_set, get-set_own, each_set}
use Rattle.ptk_words_model.specs.declared.Invocation.{Invocation}
use Rattle.ptk_words_model.specs.State.{Condition, Syncs, Part}
use Rattle.ptk_words_model.specs.Mutex.{mutex_at, new_mutex}
use Rattle.ptk_words_model.specs.Calls.{Answer, refusal, is_pointer, with_pool_mutex, with_pool_condition, with_stored}
use Rattle.ptk_words_model.specs.Steps.{mutex_named, condition_named, Row}
use Rattle.ptk_words_sync_invariant.proofs.Timeouts.{syncs_condition_init}
use Rattle.ptk_words_invariant.specs.Well.{IsWell}
use Rattle.ptk_words_invariant.proofs.Synced.{syncs_of_well, well_syncs_by}
use Rattle.ptk_words_invariant.proofs.Starts.{IsFree, least_free_is}
use Rattle.ptk_words_invariant.proofs.Steps.{well_refusal, either_well, well_unless}
use Rattle.ptk_words_invariant.proofs.MutexCalls.{length-stored, well_stored, well_new_mutex}

-- ---- what the set-up of a static initialiser leaves

-- the caller runs, memory is as long as it was, and the condition variables in use are so still (own)
pub record IsNamed (i : Invocation) (before after : Part) : Type 0 where
  pub runs : after.running ≡ Some i.caller
  pub memory : length after.memory ≡ length before.memory
  pub conditions : (c : ℕ) → IsSome (pool_get before.conditions c) → IsSome (pool_get after.conditions c)

named_same : (i : Invocation) (s : Part) → s.running ≡ Some i.caller → IsNamed i s s
named_same i s runs = record { runs = runs; memory = refl; conditions = λ c used. used }

-- a pointer is still one
pub still_pointer : (i : Invocation) (before after : Part) (pointer count : ℕ) → IsNamed i before after → is_pointer before pointer count ≡ true → is_pointer after pointer count ≡ true
still_pointer i before after pointer count named within = rw named.memory within

-- ---- mutexes

-- what a call does with a mutex leaves a whole state whole (own)
abbrev pub KeepsMutex : Invocation → Part → (ℕ → Part → Answer) → Type 0
KeepsMutex i s next = (m : ℕ) (u : Part) → IsNamed i s u → IsWell i.limits u → IsWell i.limits (next m u).part

mutex_set_up : (o : Option ℕ) (pointer : ℕ) (i : Invocation) (s : Part) (next : ℕ → Part → Answer) → least_free s.mutexes ≡ o → s.running ≡ Some i.caller → is_pointer s pointer 4 ≡ true → IsWell i.limits s → KeepsMutex i s next
    → IsWell i.limits (unwrap_or (option_map (λ m. next m (with_stored pointer m (with_pool_mutex m (Some (new_mutex Normal NoProtocol false)) s))) o) (refusal ENOMEM i s)).part
mutex_set_up None pointer i s next free runs within well each = well_refusal i.limits ENOMEM i s well
mutex_set_up (Some m) pointer i s next free runs within well each =
    let made : Part = with_pool_mutex m (Some (new_mutex Normal NoProtocol false)) s in
    each m (with_stored pointer m made) (record { runs = runs; memory = length-stored s pointer m within; conditions = λ c used. used })
    (well_stored i.limits pointer m made within (well_new_mutex i.limits m Normal NoProtocol false s free well))

-- the mutex that a word names, set up where the word is 0
pub well_mutex_named : (pointer : ℕ) (i : Invocation) (s : Part) (rest : ℕ → Row) → s.running ≡ Some i.caller → is_pointer s pointer 4 ≡ true → IsWell i.limits s → KeepsMutex i s (λ m. rest m i)
    → IsWell i.limits (mutex_named pointer rest i s).part
well_mutex_named pointer i s rest runs within well each =
    let named : ℕ = word_at s.memory pointer in
    either_well i.limits (named == 0) _ _ (λ zero. mutex_set_up (least_free s.mutexes) pointer i s (λ m. rest m i) refl runs within well each)
    (λ number. well_unless i.limits EINVAL (is_some (mutex_at s.locks named)) (rest named i s) i s well (λ found. each named s (named_same i s runs) well))

-- ---- condition variables

-- a condition variable at a free number
pub well_new_condition : (limits : Limits) (c : ℕ) (s : Part) → least_free s.conditions ≡ Some c → IsWell limits s → IsWell limits (with_pool_condition c (Some (record { waiters = [] })) s)
well_new_condition limits c s free well =
    let found : IsFree s.conditions c = least_free_is s.conditions c free in
    let made : Syncs → Syncs = λ syncs. record syncs { conditions = pool_set syncs.conditions c (Some (record { waiters = [] })) } in
    well_syncs_by limits made s (record { threads = refl; mutexes = refl; conditions = length-pool_set s.conditions c (Some (record { waiters = [] })) })
    (syncs_condition_init limits.interval c s.running s.console.waiters s.syncs found.free (syncs_of_well limits s well)) well

-- what a call does with a condition variable in use leaves a whole state whole (own)
abbrev pub KeepsCondition : Invocation → Part → (ℕ → Part → Answer) → Type 0
KeepsCondition i s next = (c : ℕ) (u : Part) → IsNamed i s u → IsSome (pool_get u.conditions c) → IsWell i.limits u → IsWell i.limits (next c u).part

-- those in use are so still
named_set_up : (c pointer : ℕ) (i : Invocation) (s : Part) → s.running ≡ Some i.caller → is_pointer s pointer 4 ≡ true → IsNamed i s (with_stored pointer c (with_pool_condition c (Some (record { waiters = [] })) s))
named_set_up c pointer i s runs within = record {
  runs = runs;
  memory = length-stored s pointer c within;
  conditions = each_set (λ (d : ℕ) (o : Option Condition). IsSome (pool_get s.conditions d) → IsSome o) c (Some (record { waiters = [] })) s.conditions (λ used. refl) (λ d used. used);
}

condition_set_up : (o : Option ℕ) (pointer : ℕ) (i : Invocation) (s : Part) (next : ℕ → Part → Answer) → least_free s.conditions ≡ o → s.running ≡ Some i.caller → is_pointer s pointer 4 ≡ true → IsWell i.limits s → KeepsCondition i s next
    → IsWell i.limits (unwrap_or (option_map (λ c. next c (with_stored pointer c (with_pool_condition c (Some (record { waiters = [] })) s))) o) (refusal ENOMEM i s)).part
condition_set_up None pointer i s next free runs within well each = well_refusal i.limits ENOMEM i s well
condition_set_up (Some c) pointer i s next free runs within well each =
    let found : IsFree s.conditions c = least_free_is s.conditions c free in
    let made : Part = with_pool_condition c (Some (record { waiters = [] })) s in
    each c (with_stored pointer c made) (named_set_up c pointer i s runs within) (ap is_some (get-set_own c (Some (record { waiters = [] })) s.conditions found.least found.most))
    (well_stored i.limits pointer c made within (well_new_condition i.limits c s free well))

-- the condition variable that a word names, set up where the word is 0
pub well_condition_named : (pointer : ℕ) (i : Invocation) (s : Part) (rest : ℕ → Row) → s.running ≡ Some i.caller → is_pointer s pointer 4 ≡ true → IsWell i.limits s → KeepsCondition i s (λ c. rest c i)
    → IsWell i.limits (condition_named pointer rest i s).part
well_condition_named pointer i s rest runs within well each =
    let named : ℕ = word_at s.memory pointer in
    either_well i.limits (named == 0) _ _ (λ zero. condition_set_up (least_free s.conditions) pointer i s (λ m. rest m i) refl runs within well each)
    (λ number. well_unless i.limits EINVAL (is_some (pool_get s.conditions named)) (rest named i s) i s well (λ found. each named s (named_same i s runs) found well))
