-- What is kept of cancellation, cleanup handlers and keys, and the start of an unwinding.
use Rattle.std.proofs.Common.{◌≡◌, ℕ, ◌<◌, ◌≤◌, true, false, List, [], ◌∷◌, length, refl, sym, ◌∙◌, ap, arith, inl, inr, drop}
use Rattle.std.specs.Prelude.{Option, Some, None, option_map, unwrap_or, slice_get}
use Rattle.std.proofs.lemmas.Bool.{cases_eq, not-true}
use Rattle.ptk_words.specs.Pools.{numbered, pool_set, pool_update}
use Rattle.ptk_words.specs.declared.sections.Limits.{Limits}
use Rattle.ptk_words.specs.declared.threads.Thread.{Thread}
use Rattle.ptk_words.specs.declared.threads.Cleanup.{Cleanup}
use Rattle.ptk_words.specs.declared.threads.Phase.TheVariants.{Unwinding}
use Rattle.ptk_words.specs.declared.TheConstants.{RETURN_GATE, CLEANUP_LIMIT}
use Rattle.ptk_words.proofs.Pools.{length-pool_set, length-update, update_own, update_other, pool_set_to_own}
use Rattle.ptk_words.proofs.Lists.{empty_from_no_first}
use Rattle.ptk_words_model.specs.declared.Cancellation.{Cancellation}
use Rattle.ptk_words_model.specs.declared.Rounds.{Rounds}
use Rattle.ptk_words_model.specs.State.{Part, Keys, with_cancellation, with_cleanups, with_keys}
use Rattle.ptk_words_model.specs.Priority.{thread_at}
use Rattle.ptk_words_model.specs.Keys.{DestructorCall, with_rounds, with_values, with_first_round, after_destructor_call}
use Rattle.ptk_words_model.specs.Unwinding.{phase_of, is_alive, cleanups_of, after_unwinding_start}
use Rattle.ptk_words.specs.Threads.{is_ended}
use Rattle.ptk_words_sync_invariant.specs.Locks.{used_of}
use Rattle.ptk_words_invariant.specs.Well.{AreHandlers, AreValues, AreEndings, IsWell}
use Rattle.ptk_words_invariant.proofs.Threads.{well_changed}

-- what the ends of threads are made of changed
pub well_kept_aside : (limits : Limits) (cancellations : List Cancellation) (cleanups : List (List Cleanup)) (keys : Keys) (s : Part) → AreEndings limits cancellations cleanups keys
    → IsWell limits s → IsWell limits (record s { cancellations = cancellations; cleanups = cleanups; keys = keys })
well_kept_aside limits cancellations cleanups keys s endings well = record {
  memory = well.memory;
  threads = well.threads;
  mutexes = well.mutexes;
  conditions = well.conditions;
  endings = endings;
  line_ready = well.line_ready;
  line_distinct = well.line_distinct;
  running_ready = well.running_ready;
  running_out = well.running_out;
  waiters_wait = well.waiters_wait;
  waiters_distinct = well.waiters_distinct;
  waits_listed = well.waits_listed;
  joiners_wait = well.joiners_wait;
  joins_listed = well.joins_listed;
  ended_wait = well.ended_wait;
  exclusion = well.exclusion;
  conditional = well.conditional;
  used = well.used;
  halted = well.halted;
  ring = well.ring;
  output = well.output;
}

-- ---- cancellation

-- what one thread keeps of cancellation
pub well_cancellation : (limits : Limits) (t : ℕ) (f : Cancellation → Cancellation) (s : Part) → IsWell limits s → IsWell limits (with_cancellation t f s)
well_cancellation limits t f s well = well_kept_aside limits (pool_update s.cancellations t f) s.cleanups s.keys s (record {
  records = length-update s.cancellations t f ∙ well.endings.records;
  stacks = well.endings.stacks;
  handlers = well.endings.handlers;
  destructors = well.endings.destructors;
  rows = well.endings.rows;
  values = well.endings.values;
  rounds = well.endings.rounds;
}) well

-- ---- cleanup handlers

handlers_map : (f : List Cleanup → List Cleanup) (o : Option (List Cleanup)) → ((cleanups : List Cleanup) → o ≡ Some cleanups → length (f cleanups) ≤ CLEANUP_LIMIT) → AreHandlers (option_map f o)
handlers_map f None keeps = tt
handlers_map f (Some cleanups) keeps = keeps cleanups refl

handlers_update : (t : ℕ) (f : List Cleanup → List Cleanup) (stacks : List (List Cleanup)) → ((cleanups : List Cleanup) → numbered stacks t ≡ Some cleanups → length (f cleanups) ≤ CLEANUP_LIMIT)
    → ((u : ℕ) → AreHandlers (numbered stacks u)) → (u : ℕ) → AreHandlers (numbered (pool_update stacks t f) u)
handlers_update t f stacks keeps each u = elim (cases_eq u t) [
  | inl same ↦ (rw (same, update_own stacks t f) (handlers_map f (numbered stacks t) keeps))
  | inr ne ↦ (rw (update_other stacks t u f ne) (each u))
]

-- the cleanup handlers of one thread, which stay within their limit
pub well_cleanups : (limits : Limits) (t : ℕ) (f : List Cleanup → List Cleanup) (s : Part) → ((cleanups : List Cleanup) → numbered s.cleanups t ≡ Some cleanups → length (f cleanups) ≤ CLEANUP_LIMIT)
    → IsWell limits s → IsWell limits (with_cleanups t f s)
well_cleanups limits t f s keeps well = well_kept_aside limits s.cancellations (pool_update s.cleanups t f) s.keys s (record {
  records = well.endings.records;
  stacks = length-update s.cleanups t f ∙ well.endings.stacks;
  handlers = handlers_update t f s.cleanups keeps well.endings.handlers;
  destructors = well.endings.destructors;
  rows = well.endings.rows;
  values = well.endings.values;
  rounds = well.endings.rounds;
}) well

handlers_within : (o : Option (List Cleanup)) → AreHandlers o → length (unwrap_or o []) ≤ CLEANUP_LIMIT
handlers_within None are = omega arith
handlers_within (Some cleanups) are = are

-- the cleanup handlers of a thread are within their limit
pub cleanups_within : (limits : Limits) (t : ℕ) (s : Part) → IsWell limits s → length (cleanups_of s t) ≤ CLEANUP_LIMIT
cleanups_within limits t s well = handlers_within (numbered s.cleanups t) (well.endings.handlers t)

-- one handler less
pub popped_within : (limits : Limits) (t : ℕ) (cleanup : Cleanup) (cleanups : List Cleanup) (s : Part) → cleanups_of s t ≡ cleanup ∷ cleanups → IsWell limits s → length cleanups ≤ CLEANUP_LIMIT
popped_within limits t cleanup cleanups s e well =
    let within : length (cleanups_of s t) ≤ CLEANUP_LIMIT = cleanups_within limits t s well in
    let longer : length (cleanups_of s t) ≡ length (cleanup ∷ cleanups) = ap length e in
    omega (arith, longer, within)

-- ---- keys

-- the keys changed, with as many of them, a value for each in every thread, and everybody's rounds
pub well_keys : (limits : Limits) (keys : Keys) (s : Part) → length keys.destructors ≡ limits.keys → length keys.values ≡ limits.threads → ((u : ℕ) → AreValues limits.keys (numbered keys.values u)) → length keys.rounds ≡ limits.threads
    → IsWell limits s → IsWell limits (record s { keys = keys })
well_keys limits keys s destructors rows values rounds well = well_kept_aside limits s.cancellations s.cleanups keys s (record {
  records = well.endings.records;
  stacks = well.endings.stacks;
  handlers = well.endings.handlers;
  destructors = destructors;
  rows = rows;
  values = values;
  rounds = rounds;
}) well

-- how far one thread's destructor calls are
pub well_rounds : (limits : Limits) (t : ℕ) (f : Rounds → Rounds) (s : Part) → IsWell limits s → IsWell limits (with_keys (with_rounds t f) s)
well_rounds limits t f s well =
    well_keys limits (with_rounds t f s.keys) s well.endings.destructors well.endings.rows well.endings.values (length-update s.keys.rounds t f ∙ well.endings.rounds) well

-- the values of one thread, of which there stays one for each key
pub values_map : (n : ℕ) (f : List ℕ → List ℕ) (o : Option (List ℕ)) → AreValues n o → ((values : List ℕ) → length values ≡ n → length (f values) ≡ n) → AreValues n (option_map f o)
values_map n f None are keeps = tt
values_map n f (Some values) are keeps = keeps values are

values_update : (n t : ℕ) (f : List ℕ → List ℕ) (rows : List (List ℕ)) → ((values : List ℕ) → length values ≡ n → length (f values) ≡ n) → ((u : ℕ) → AreValues n (numbered rows u)) → (u : ℕ) → AreValues n (numbered (pool_update rows t f) u)
values_update n t f rows keeps each u = elim (cases_eq u t) [
  | inl same ↦ (rw (same, update_own rows t f) (values_map n f (numbered rows t) (each t) keeps))
  | inr ne ↦ (rw (update_other rows t u f ne) (each u))
]

pub well_values : (limits : Limits) (t : ℕ) (f : List ℕ → List ℕ) (s : Part) → ((values : List ℕ) → length values ≡ limits.keys → length (f values) ≡ limits.keys) → IsWell limits s → IsWell limits (with_keys (with_values t f) s)
well_values limits t f s keeps well =
    well_keys limits (with_values t f s.keys) s well.endings.destructors (length-update s.keys.values t f ∙ well.endings.rows) (values_update limits.keys t f s.keys.values keeps well.endings.values) well.endings.rounds well

-- a destructor is called with the value, which becomes 0
pub well_destructor_call : (limits : Limits) (t : ℕ) (call : DestructorCall) (s : Part) → IsWell limits s → IsWell limits (with_keys (after_destructor_call t call) s)
well_destructor_call limits t call s well =
    let passed : Part = with_keys (with_rounds t (λ _. record { round = call.round; passed = call.key })) s in
    well_values limits t (λ values. pool_set values call.key 0) passed (λ values same. length-pool_set values call.key 0 ∙ same) (well_rounds limits t (λ _. record { round = call.round; passed = call.key }) s well)

-- ---- the start of an unwinding

alive_phase : (thread : Thread) (o : Option Thread) → o ≡ Some thread → is_alive o ≡ true → is_ended thread.phase ≡ false
alive_phase thread o e alive = not-true (is_ended thread.phase) (sym (ap is_alive e) ∙ alive)

-- a thread in use that has not ended begins to unwind
pub well_unwinding_start : (limits : Limits) (t value : ℕ) (s : Part) → is_alive (thread_at s.locks t) ≡ true → IsWell limits s → IsWell limits (after_unwinding_start t value s)
well_unwinding_start limits t value s alive well =
    let calmed : IsWell limits (with_cancellation t (λ c. record c { is_enabled = false; is_asynchronous = false; is_marked = false }) s) =
    well_cancellation limits t (λ c. record c { is_enabled = false; is_asynchronous = false; is_marked = false }) s well in
    let first : IsWell limits (with_keys (with_rounds t (with_first_round (phase_of (thread_at s.locks t)))) (with_cancellation t (λ c. record c { is_enabled = false; is_asynchronous = false; is_marked = false }) s)) =
    well_rounds limits t (with_first_round (phase_of (thread_at s.locks t))) (with_cancellation t (λ c. record c { is_enabled = false; is_asynchronous = false; is_marked = false }) s) calmed in
    well_changed limits t (λ thread. record thread { cpu = record (thread.cpu) { pc = RETURN_GATE }; result = value; phase = Unwinding })
    (with_keys (with_rounds t (with_first_round (phase_of (thread_at s.locks t)))) (with_cancellation t (λ c. record c { is_enabled = false; is_asynchronous = false; is_marked = false }) s))
    (λ thread e. record { wait = refl; joiner = refl; ended = sym (alive_phase thread (thread_at s.locks t) e alive) })
    (λ thread e. let lt : used_of (thread_at s.locks t) < limits.interval = well.used t in rw e at lt) first

-- ---- no handler left

emptied_at : (t : ℕ) (cleanups : List (List Cleanup)) (o : Option (List Cleanup)) → numbered cleanups t ≡ o → unwrap_or o [] ≡ []
    → unwrap_or (option_map (λ own. pool_set cleanups t (drop 1 own)) o) cleanups ≡ cleanups
emptied_at t cleanups None e none = refl
emptied_at t cleanups (Some own) e none =
    ap (λ (own : List Cleanup). pool_set cleanups t (drop 1 own)) none ∙ pool_set_to_own cleanups t [] (e ∙ ap Some none)

-- taking one off changes nothing
pub none_taken : (t : ℕ) (s : Part) → slice_get (cleanups_of s t) 0 ≡ None → with_cleanups t (drop 1) s ≡ s
none_taken t s none =
    ap (λ (cleanups : List (List Cleanup)). record s { cleanups = cleanups }) (emptied_at t s.cleanups (numbered s.cleanups t) refl (empty_from_no_first (cleanups_of s t) none))
