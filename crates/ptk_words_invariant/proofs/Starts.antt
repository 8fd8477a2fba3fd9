-- New threads, and the state that a partition starts with.
use Rattle.std.proofs.Common.{◌≡◌, ℕ, suc, ◌+◌, ◌-◌, ◌*◌, ◌<◌, ◌≤◌, Bool, true, false, List, [], ◌∷◌, ◌++◌, length, replicate, refl, sym, ◌∙◌, ap, subst, arith, inl, inr, length-append}
use Rattle.std.specs.List.{position_or_len, IsDistinct}
use Rattle.std.specs.Option.{option_flatten}
use Rattle.std.proofs.lemmas.List.{length-replicate}
use Rattle.std.specs.Prelude.{cond, slice_get, nat_eq, ◌≢◌, Option, Some, None, option_map, is_none, nat_lt, Result, Ok, Err, if◌then◌else◌}
use Rattle.std.proofs.lemmas.Bool.{cases_eq, false≢true, ltb-true, ltb-false, not-true}
use Rattle.ptk_words.specs.Image.{ImageParts, image_of}
use Rattle.ptk_words.specs.Pools.{numbered, pool_get, pool_set, least_free, is_in}
use Rattle.ptk_words.specs.declared.sections.Limits.{Limits}
use Rattle.ptk_words.specs.declared.sections.Arrival.{Arrival}
use Rattle.ptk_words.specs.declared.faults.ImageFault.{ImageFault}
use Rattle.ptk_words.specs.declared.faults.ImageFault.TheVariants.{Unfit}
use Rattle.ptk_words.specs.declared.faults.Status.TheVariants.{Refused}
use Rattle.ptk_words.specs.declared.TheConstants.{CLEANUP_LIMIT}
use Rattle.ptk_words.specs.declared.threads.Cleanup.{Cleanup}
use Rattle.ptk_words.specs.declared.threads.Thread.{Thread}
use Rattle.ptk_words.proofs.Pools.{get-set_own, get-set_other, length-pool_set, get-replicate, numbered-replicate}
use Rattle.ptk_words.proofs.Lists.{none_distinct}
use Rattle.ptk_words_model.specs.State.{Mutex, Part, with_locks, with_cancellation, with_cleanups, with_keys}
use Rattle.ptk_words_model.specs.Priority.{thread_at, awaited}
use Rattle.ptk_words_model.specs.Mutex.{wait_of, waiters_of, count_of, owns}
use Rattle.ptk_words_model.specs.Keys.{no_values, no_rounds, with_rounds, with_values}
use Rattle.ptk_words_model.specs.Unwinding.{is_alive}
use Rattle.ptk_words.specs.Threads.{is_ended, mutex_of_wait, condition_of_wait}
use Rattle.ptk_words_model.specs.ThreadCreation.{new_cancellation, with_new_thread}
use Rattle.ptk_words_model.specs.Run.{empty_part, main_thread, fits, memory_of, with_image, start_part}
use Rattle.ptk_words_sync_invariant.specs.Locks.{is_ready, joiner_of, used_of, AreMutexes}
use Rattle.ptk_words_model.specs.Condition.{waiters_on}
use Rattle.ptk_words_sync_invariant.specs.Conditions.{AreConditions}
use Rattle.ptk_words_invariant.specs.Well.{AreHandlers, AreValues, IsWell}
use Rattle.ptk_words_sync_invariant.proofs.Lined.{AreOthers, not_ready_out, not_ready_stopped, lined_others, lined_push}
use Rattle.ptk_words_sync_invariant.proofs.Listed.{AreSameWaits, listed_same}
use Rattle.ptk_words_sync_invariant.proofs.ConditionsKept.{conditions_created, conditions_none}
use Rattle.ptk_words_invariant.proofs.Whole.{lined_of, waiting_of, well_scheduled, used_others}
use Rattle.ptk_words_invariant.proofs.Exclusion.{ended_owns, exclusion_unowning}
use Rattle.ptk_words_invariant.proofs.Parts.{well_memory, well_halt}
use Rattle.ptk_words_invariant.proofs.Unwindings.{well_cancellation, well_cleanups, well_rounds, well_values}

-- ---- a new thread

-- a thread that waits for nothing, that no thread waits for, and that has used nothing of its interval (own)
pub record IsNew (thread : Thread) : Type 0 where
  pub wait : thread.wait ≡ None
  pub joiner : thread.joiner ≡ None
  pub ended : is_ended thread.phase ≡ false
  pub used : thread.used ≡ 0

set_same : {A : Type 0} (word : Option Thread → A) (t : ℕ) (o : Option Thread) (threads : List (Option Thread)) → 0 < t → t ≤ length threads → word o ≡ word (pool_get threads t) → (u : ℕ) → word (pool_get (pool_set threads t o) u) ≡ word (pool_get threads u)
set_same word t o threads h le here u = elim (cases_eq u t) [
  | inl same ↦ (rw same (ap word (get-set_own t o threads h le) ∙ here))
  | inr ne ↦ ap word (get-set_other t u o threads ne)
]

new_ready : (thread : Thread) → IsNew thread → is_ready (Some thread) ≡ true
new_ready thread new = rw (new.wait, new.ended) refl

-- a free number gets a thread, at the tail
well_added : (limits : Limits) (t : ℕ) (thread : Thread) (s : Part) → 0 < t → t ≤ length s.threads → thread_at s.locks t ≡ None → IsNew thread → IsWell limits s
    → IsWell limits (with_locks (λ locks. record locks { threads = pool_set locks.threads t (Some thread); line = locks.line ++ t ∷ [] }) s)
well_added limits t thread s h le free new well =
    let after : List (Option Thread) = pool_set s.threads t (Some thread) in
    let own : pool_get after t ≡ Some thread = get-set_own t (Some thread) s.threads h le in
    let others : AreOthers t s.threads after = λ u ne. get-set_other t u (Some thread) s.threads ne in
    let idle : is_ready (pool_get s.threads t) ≡ false = ap is_ready free in
    let out : is_in t s.line ≡ false = not_ready_out s.threads s.line s.running t (lined_of limits s well) idle in
    let stops : s.running ≢ Some t = not_ready_stopped s.threads s.line s.running t (lined_of limits s well) idle in
    let waits : (u : ℕ) → wait_of (pool_get after u) ≡ wait_of (pool_get s.threads u) = set_same wait_of t (Some thread) s.threads h le (new.wait ∙ sym (ap wait_of free)) in
    let same : AreSameWaits s.threads after = record { wait = waits; joiner = set_same joiner_of t (Some thread) s.threads h le (new.joiner ∙ sym (ap joiner_of free)) } in
    let ended : (u : ℕ) → is_alive (pool_get after u) ≡ false → wait_of (pool_get after u) ≡ None = λ u e. waits u ∙ elim (cases_eq u t) [
      | inl one ↦ (rw one (ap wait_of free))
      | inr ne ↦ well.ended_wait u (sym (ap is_alive (others u ne)) ∙ e)
    ] in
    let below : used_of (pool_get after t) < limits.interval = rw (own, new.used) (well.used 0) in
    well_scheduled limits s after (s.line ++ t ∷ []) s.mutexes s.running s.console.waiters (length-pool_set s.threads t (Some thread)) refl
    (lined_push t after s.line s.running (ap is_ready own ∙ new_ready thread new) out stops (lined_others t s.threads after s.line s.running others out stops (lined_of limits s well)))
    (listed_same s.threads after s.console.waiters same ended (waiting_of limits s well))
    (exclusion_unowning t s.threads after s.mutexes others (ap awaited own ∙ ap mutex_of_wait new.wait ∙ sym (ap awaited free)) (ended_owns t s.threads s.mutexes (ap is_alive free) well.exclusion) well.exclusion)
    (conditions_created t thread s.threads s.mutexes s.conditions free new.wait well.conditional)
    (used_others limits.interval t s.threads after others below well.used)
    well.halted well

none_within : 0 ≤ CLEANUP_LIMIT
none_within = omega arith

pub well_new_thread : (limits : Limits) (t : ℕ) (thread : Thread) (s : Part) → 0 < t → t ≤ length s.threads → thread_at s.locks t ≡ None → IsNew thread → IsWell limits s → IsWell limits (with_new_thread limits t thread s)
well_new_thread limits t thread s h le free new well =
    let first : Part = with_cancellation t (λ _. new_cancellation) s in
    let second : Part = with_cleanups t (λ _. []) first in
    let third : Part = with_keys (with_rounds t (λ _. no_rounds)) second in
    let fourth : Part = with_keys (with_values t (λ _. no_values limits.keys)) third in
    let well_first : IsWell limits first = well_cancellation limits t (λ _. new_cancellation) s well in
    let well_second : IsWell limits second = well_cleanups limits t (λ _. []) first (λ _ _. none_within) well_first in
    let well_third : IsWell limits third = well_rounds limits t (λ _. no_rounds) second well_second in
    let well_fourth : IsWell limits fourth = well_values limits t (λ _. no_values limits.keys) third (λ _ _. length-replicate limits.keys 0) well_third in
    well_added limits t thread fourth h le free new well_fourth

-- ---- the least free number

free_place : {A : Type 0} (pool : List (Option A)) → position_or_len is_none pool < length pool → slice_get pool (position_or_len is_none pool) ≡ Some None
free_place [] lt = absurd (omega (arith, lt))
free_place (None ∷ pool) lt = refl
free_place {A = A} (Some a ∷ pool) lt =
    let step : 1 + position_or_len is_none pool ≡ suc (position_or_len is_none pool) = omega arith in
    ap (slice_get {X = Option A} (Some a ∷ pool)) step ∙ free_place pool (omega (arith, lt))

-- a free number of the pool (own)
pub record IsFree {A : Type 0} (pool : List (Option A)) (t : ℕ) : Type 0 where
  pub least : 0 < t
  pub most : t ≤ length pool
  pub free : pool_get pool t ≡ None

least_free_at : {A : Type 0} (pool : List (Option A)) (t : ℕ) (b : Bool) → nat_lt (position_or_len is_none pool) (length pool) ≡ b → option_map suc (cond b (Some (position_or_len is_none pool)) None) ≡ Some t → IsFree pool t
least_free_at pool t false found e = absurd (let no : ⊥ = cc in no)
least_free_at pool t true found e =
    let lt : position_or_len is_none pool < length pool = ltb-true (position_or_len is_none pool) (length pool) found in
    let here : suc (position_or_len is_none pool) ≡ t = cc in
    rw (← here) (record { least = omega arith; most = omega (arith, lt); free = ap option_flatten (free_place pool lt) })

pub least_free_is : {A : Type 0} (pool : List (Option A)) (t : ℕ) → least_free pool ≡ Some t → IsFree pool t
least_free_is pool t e = least_free_at pool t (nat_lt (position_or_len is_none pool) (length pool)) refl e

-- a new thread at the least free number
pub well_least_free : (limits : Limits) (t : ℕ) (thread : Thread) (s : Part) → least_free s.threads ≡ Some t → IsNew thread → IsWell limits s → IsWell limits (with_new_thread limits t thread s)
well_least_free limits t thread s e new well = let found : IsFree s.threads t = least_free_is s.threads t e in well_new_thread limits t thread s found.least found.most found.free new well

-- ---- the start

unused_of : (n t : ℕ) → used_of (pool_get {A = Thread} (replicate n None) t) ≡ 0
unused_of n t = ap used_of (get-replicate n t)

handlers_at : (n t : ℕ) (o : Option (List Cleanup)) → numbered (replicate n []) t ≡ o → AreHandlers o
handlers_at n t None e = tt
handlers_at n t (Some cleanups) e = let same : cleanups ≡ [] = numbered-replicate n t [] cleanups e in rw same none_within

values_at : (n k t : ℕ) (o : Option (List ℕ)) → numbered (replicate n (no_values k)) t ≡ o → AreValues k o
values_at n k t None e = tt
values_at n k t (Some values) e = let same : values ≡ no_values k = numbered-replicate n t (no_values k) values e in rw same (length-replicate k 0)

no_wait : {A : Type 0} (n t : ℕ) (a : A) (word : Option Thread → Option A) → word None ≡ None → word (pool_get (replicate n None) t) ≡ Some a → ⊥
no_wait n t a word none e = let here : word (pool_get (replicate n None) t) ≡ None = ap word (get-replicate n t) ∙ none in let no : ⊥ = cc in no

-- the mutexes of which each number is free, with threads of which each number is free
no_mutexes : (n k : ℕ) → AreMutexes (replicate n None) (replicate k None)
no_mutexes n k = record {
  waiters_wait = λ m t e. absurd (false≢true (sym (ap (λ (o : Option Mutex). is_in t (waiters_of o)) (get-replicate k m)) ∙ e));
  waits_listed = λ m t e. absurd (no_wait n t m awaited refl e);
  waiters_distinct = λ m. subst (λ (o : Option Mutex). IsDistinct nat_eq (waiters_of o)) (sym (get-replicate k m)) none_distinct;
  owners_alive = λ m t e. absurd (false≢true (sym (ap (owns t) (get-replicate k m)) ∙ e));
  free_unwaited = λ m e. ap waiters_of (get-replicate k m);
  counts = λ m. rw (ap count_of (get-replicate {A = Mutex} k m)) (omega arith);
}

-- the condition variables of which each number is free
no_conditions : (n k j : ℕ) → AreConditions (replicate n None) (replicate k None) (replicate j None)
no_conditions n k j =
    conditions_none (replicate n None) (replicate k None) (replicate j None) (λ t. ap (λ (o : Option Thread). condition_of_wait (wait_of o)) (get-replicate n t)) (λ c. ap waiters_on (get-replicate j c))

pub well_empty : (limits : Limits) (input : List Arrival) → 0 < limits.interval → IsWell limits (empty_part limits input)
well_empty limits input interval = record {
  memory = length-replicate limits.memory 0;
  threads = length-replicate limits.threads None;
  mutexes = length-replicate limits.mutexes None;
  conditions = length-replicate limits.conditions None;
  endings = record {
    records = length-replicate limits.threads new_cancellation;
    stacks = length-replicate limits.threads [];
    handlers = λ t. handlers_at limits.threads t (numbered (replicate limits.threads []) t) refl;
    destructors = length-replicate limits.keys None;
    rows = length-replicate limits.threads (no_values limits.keys);
    values = λ t. values_at limits.threads limits.keys t (numbered (replicate limits.threads (no_values limits.keys)) t) refl;
    rounds = length-replicate limits.threads no_rounds;
  };
  line_ready = λ t e. absurd (false≢true e);
  line_distinct = none_distinct;
  running_ready = λ t e. absurd (let no : ⊥ = cc in no);
  running_out = λ t e. absurd (let no : ⊥ = cc in no);
  waiters_wait = λ t e. absurd (false≢true e);
  waiters_distinct = none_distinct;
  waits_listed = λ t e. absurd (no_wait limits.threads t _ wait_of refl e);
  joiners_wait = λ t u e. absurd (no_wait limits.threads u t joiner_of refl e);
  joins_listed = λ t u e. absurd (no_wait limits.threads t _ wait_of refl e);
  ended_wait = λ t e. ap wait_of (get-replicate limits.threads t);
  exclusion = no_mutexes limits.threads limits.mutexes;
  conditional = no_conditions limits.threads limits.mutexes limits.conditions;
  used = λ t. rw (unused_of limits.threads t) interval;
  halted = λ e. refl;
  ring = omega arith;
  output = omega arith;
}

pub memory_fits : (limits : Limits) (image : ImageParts) → fits limits image ≡ true → length (memory_of limits image) ≡ limits.memory
memory_fits limits image e =
    let text : ℕ = length image.text in
    let all : ℕ = length image.«data» in
    let room : length image.text + length image.«data» + image.bss ≤ limits.memory - limits.threads * limits.stack = ltb-false _ _ (not-true _ e) in
    let zeros : List ℕ = replicate (limits.memory - (length image.text + length image.«data»)) 0 in
    let a : length (memory_of limits image) ≡ length image.text + length (image.«data» ++ zeros) = length-append image.text (image.«data» ++ zeros) in
    let b : length (image.«data» ++ zeros) ≡ length image.«data» + length zeros = length-append image.«data» zeros in
    let c : length zeros ≡ limits.memory - (length image.text + length image.«data») = length-replicate (limits.memory - (length image.text + length image.«data»)) 0 in
    omega (arith, a, b, c, room)

image_at : (limits : Limits) (image : ImageParts) (input : List Arrival) (b : Bool) → fits limits image ≡ b → 1 ≤ limits.threads → 0 < limits.interval
    → IsWell limits (if b then with_new_thread limits 1 (main_thread limits image) (record (empty_part limits input) { memory = memory_of limits image }) else record (empty_part limits input) { status = Refused Unfit })
image_at limits image input false e threads interval = well_halt limits (Refused Unfit) (empty_part limits input) (well_empty limits input interval)
image_at limits image input true e threads interval =
    let first : 0 < 1 = omega arith in
    let zeros : List ℕ = replicate limits.memory 0 in
    let size : length (memory_of limits image) ≡ length zeros = memory_fits limits image e ∙ sym (length-replicate limits.memory 0) in
    let filled : IsWell limits (record (empty_part limits input) { memory = memory_of limits image }) = well_memory limits (memory_of limits image) (empty_part limits input) size (well_empty limits input interval) in
    well_new_thread limits 1 (main_thread limits image) (record (empty_part limits input) { memory = memory_of limits image }) first
    (rw (length-replicate {A = Option Thread} limits.threads None) threads) (get-replicate limits.threads 1) (record { wait = refl; joiner = refl; ended = refl; used = refl }) filled

well_image : (limits : Limits) (image : Result ImageParts ImageFault) (input : List Arrival) → 1 ≤ limits.threads → 0 < limits.interval → IsWell limits (with_image limits image (empty_part limits input))
well_image limits (Err fault) input threads interval = well_halt limits (Refused fault) (empty_part limits input) (well_empty limits input interval)
well_image limits (Ok image) input threads interval = image_at limits image input (fits limits image) refl threads interval

-- what a partition starts with is whole
pub well_start : (limits : Limits) (image : Option (List ℕ)) (input : List Arrival) → 1 ≤ limits.threads → 1 ≤ limits.interval → IsWell limits (start_part limits image input)
well_start limits None input threads interval = well_empty limits input interval
well_start limits (Some bytes) input threads interval = well_image limits (image_of bytes) input threads interval
