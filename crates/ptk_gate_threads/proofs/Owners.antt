-- A thread gives up its mutexes: threads, line, mutexes and condition variables stay whole, and what its end reads of it stays, also where it does not run.
use Rattle.std.proofs.Common.{◌≡◌, ℕ, Bool, true, false, List, [], ◌∷◌, fold, refl, ◌∙◌}
use Rattle.std.specs.Prelude.{Option, Some, None, option_map, if◌then◌else◌}
use Rattle.ptk_words.specs.Pools.{numbers_of}
use Rattle.ptk_words.specs.declared.sections.Limits.{Limits}
use Rattle.ptk_words.specs.declared.threads.Thread.{Thread}
use Rattle.ptk_words.specs.declared.mutexes.Soundness.TheVariants.{Inconsistent}
use Rattle.ptk_words_model.specs.declared.LockMove.{LockMove}
use Rattle.ptk_words_model.specs.State.{Mutex, Locks, Syncs, Part, with_locks}
use Rattle.ptk_words_model.specs.Priority.{thread_at, is_owner}
use Rattle.ptk_words_model.specs.Mutex.{mutex_at, soundness_of, with_soundness, handed, heir, free_move, after_hand_over_to, after_bequest, after_abandonment, after_mutex_end, after_owner_end}
use Rattle.ptk_words_model.specs.Unwinding.{after_release}
use Rattle.ptk_words_sync_invariant.proofs.Threads.{changed_same}
use Rattle.ptk_words_sync_invariant.proofs.Timed.{AreSyncs, syncs_soundness, syncs_abandonment, syncs_hand_over}
use Rattle.ptk_words_invariant.specs.Well.{IsWell}
use Rattle.ptk_words_invariant.proofs.Synced.{syncs_of_well, well_syncs_by}
use Rattle.ptk_words_invariant.proofs.SyncSizes.{sized_owner_end}

-- ---- threads, line, mutexes and condition variables stay whole

-- these threads, line and mutexes, with the same condition variables (own)
abbrev locked : Locks → Syncs → Syncs
locked locks syncs = record syncs { locks = locks }

syncs_either : (interval m : ℕ) (running : Option ℕ) (waiters : List ℕ) (owned robust : Bool) (syncs : Syncs) → AreSyncs interval running waiters syncs
    → AreSyncs interval running waiters (locked (if owned then (if robust then after_bequest m syncs.locks else after_abandonment m syncs.locks) else syncs.locks) syncs)
syncs_either interval m running waiters false robust syncs are = are
syncs_either interval m running waiters true true syncs are =
    syncs_hand_over interval m running waiters (locked (with_soundness Inconsistent m syncs.locks) syncs) (syncs_soundness interval m running waiters Inconsistent syncs are)
syncs_either interval m running waiters true false syncs are = syncs_abandonment interval m running waiters syncs are

syncs_mutex_end : (interval t m : ℕ) (running : Option ℕ) (waiters : List ℕ) (mutex : Option Mutex) (syncs : Syncs) → AreSyncs interval running waiters syncs
    → AreSyncs interval running waiters (locked (after_mutex_end t mutex m syncs.locks) syncs)
syncs_mutex_end interval t m running waiters None syncs are = are
syncs_mutex_end interval t m running waiters (Some x) syncs are = syncs_either interval m running waiters (is_owner t x.owner) x.is_robust syncs are

syncs_ends : (interval t : ℕ) (running : Option ℕ) (waiters : List ℕ) (ms : List ℕ) (syncs : Syncs) → AreSyncs interval running waiters syncs
    → AreSyncs interval running waiters (locked (fold (λ out m. after_mutex_end t (mutex_at out m) m out) syncs.locks ms) syncs)
syncs_ends interval t running waiters [] syncs are = are
syncs_ends interval t running waiters (m ∷ ms) syncs are =
    syncs_ends interval t running waiters ms (locked (after_mutex_end t (mutex_at syncs.locks m) m syncs.locks) syncs) (syncs_mutex_end interval t m running waiters (mutex_at syncs.locks m) syncs are)

-- so the state stays whole, whether the thread runs or not
pub well_abandonment : (limits : Limits) (t : ℕ) (s : Part) → IsWell limits s → IsWell limits (with_locks (after_owner_end t) s)
well_abandonment limits t s well =
    well_syncs_by limits (λ syncs. locked (after_owner_end t syncs.locks) syncs) s (sized_owner_end t s.syncs)
    (syncs_ends limits.interval t s.running s.console.waiters (numbers_of s.mutexes) s.syncs (syncs_of_well limits s well)) well

-- ---- what a waiter that is woken keeps

-- this is the same of a waiter before and after it is woken (own)
abbrev IsKept : {A : Type 0} → (Option Thread → A) → Type 0
IsKept word = (move : LockMove) (o : Option Thread) → word (option_map (handed move) o) ≡ word o

kept_hand_over : {A : Type 0} (word : Option Thread → A) (u m : ℕ) (next : Option ℕ) (locks : Locks) → IsKept word → word (thread_at (after_hand_over_to next m locks) u) ≡ word (thread_at locks u)
kept_hand_over word u m None locks kept = refl
kept_hand_over word u m (Some t) locks kept =
    let move : LockMove = free_move (soundness_of (mutex_at locks m)) in
    changed_same word t (handed move) locks.threads (kept move (thread_at locks t)) u

kept_either : {A : Type 0} (word : Option Thread → A) (u m : ℕ) (owned robust : Bool) (locks : Locks) → IsKept word
    → word (thread_at (if owned then (if robust then after_bequest m locks else after_abandonment m locks) else locks) u) ≡ word (thread_at locks u)
kept_either word u m false robust locks kept = refl
kept_either word u m true true locks kept = kept_hand_over word u m (heir m (with_soundness Inconsistent m locks)) (with_soundness Inconsistent m locks) kept
kept_either word u m true false locks kept = refl

kept_mutex_end : {A : Type 0} (word : Option Thread → A) (t u m : ℕ) (mutex : Option Mutex) (locks : Locks) → IsKept word → word (thread_at (after_mutex_end t mutex m locks) u) ≡ word (thread_at locks u)
kept_mutex_end word t u m None locks kept = refl
kept_mutex_end word t u m (Some x) locks kept = kept_either word u m (is_owner t x.owner) x.is_robust locks kept

kept_ends : {A : Type 0} (word : Option Thread → A) (t u : ℕ) (ms : List ℕ) (locks : Locks) → IsKept word
    → word (thread_at (fold (λ out m. after_mutex_end t (mutex_at out m) m out) locks ms) u) ≡ word (thread_at locks u)
kept_ends word t u [] locks kept = refl
kept_ends word t u (m ∷ ms) locks kept =
    kept_ends word t u ms (after_mutex_end t (mutex_at locks m) m locks) kept ∙ kept_mutex_end word t u m (mutex_at locks m) locks kept

-- ---- what a thread's end reads of it

-- its joiner, its result and whether it is detached
release_kept : (t : ℕ) (locks : Locks) → IsKept (λ o. after_release t o locks)
release_kept t locks move None = refl
release_kept t locks move (Some thread) = refl

-- they are what they were before it gave up its mutexes
pub release_same : (t : ℕ) (locks : Locks) → after_release t (thread_at (after_owner_end t locks) t) (after_owner_end t locks) ≡ after_release t (thread_at locks t) (after_owner_end t locks)
release_same t locks =
    let left : Locks = after_owner_end t locks in
    kept_ends (λ (o : Option Thread). after_release t o left) t t (numbers_of locks.mutexes) locks (release_kept t left)
