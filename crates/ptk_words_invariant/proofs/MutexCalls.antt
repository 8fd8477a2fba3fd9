-- Each call on a mutex leaves the state whole, and so does the set-up of a static initialiser.
use Rattle.std.proofs.Common.{◌≡◌, ℕ, ◌+◌, ◌%◌, Bool, true, false, ◌&&◌, ◌||◌, [], ◌∷◌, length, refl, sym, ◌∙◌, ap, subst}
use Rattle.std.specs.Prelude.{Option, Some, None, is_some, option_map, unwrap_or, nat_le, ◌==◌}
use Rattle.std.specs.Int.{w32, to_le_bytes}
use Rattle.std.proofs.lemmas.Bool.{leb-true, and_parts, or_parts}
use Rattle.ptk_words.specs.Faults.{errno_number}
use Rattle.ptk_words.specs.Pools.{pool_set, least_free}
use Rattle.ptk_words.specs.Words.{word_at, with_word}
use Rattle.ptk_words.specs.declared.TheConstants.{DESTROYED}
use Rattle.ptk_words.specs.declared.faults.Errno.TheVariants.{EPERM, ENOMEM, EFAULT, EBUSY, EINVAL, EOWNERDEAD}
use Rattle.ptk_words.specs.declared.mutexes.MutexKind.{MutexKind}
use Rattle.ptk_words.specs.declared.mutexes.MutexKind.TheVariants.{Normal}
use Rattle.ptk_words.specs.declared.mutexes.Protocol.{Protocol}
use Rattle.ptk_words.specs.declared.mutexes.Protocol.TheVariants.{NoProtocol}
use Rattle.ptk_words.specs.declared.mutexes.Soundness.TheVariants.{Consistent}
use Rattle.ptk_words.specs.declared.sections.Limits.{Limits}
use Rattle.ptk_words.specs.declared.threads.Wait.TheVariants.{MutexWait}
use Rattle.ptk_words.proofs.Pools.{length-pool_set, length-changed}
use Rattle.ptk_words.proofs.Lists.{length-with_bytes}
use Rattle.ptk_words_model.specs.declared.Invocation.{Invocation}
use Rattle.ptk_words_model.specs.declared.LockMove.{LockMove}
use Rattle.ptk_words_model.specs.declared.LockMove.TheVariants.{Takes, Recovers, Counts, Waits, Refuses}
use Rattle.ptk_words_model.specs.State.{Locks, Syncs, Part, with_locks}
use Rattle.ptk_words_model.specs.Mutex.{mutex_at, new_mutex, owns, with_soundness, lock_move, trylock_move, after_move, after_unlock}
use Rattle.ptk_words_model.specs.Condition.{names_mutex}
use Rattle.ptk_words_model.specs.Calls.{Answer, refusal, told, is_pointer, with_pool_mutex, with_stored}
use Rattle.ptk_words_model.specs.MutexCalls.{kind_of, protocol_of, is_robust_type, is_locked, is_repairable, make_move, mutex_init, mutex_destroy, mutex_lock, mutex_trylock, mutex_unlock, mutex_consistent}
use Rattle.ptk_words_model.specs.Steps.{mutex_named, Row, readable}
use Rattle.ptk_words_invariant.specs.Rests.{destroy_named, lock_by, trylock_named, unlock_named, consistent_named}
use Rattle.ptk_words_invariant.specs.Well.{IsWell}
use Rattle.ptk_words_sync_invariant.specs.LockLaws.{running_after}
use Rattle.ptk_words_sync_invariant.proofs.Timed.{AreSyncs, syncs_unlock, syncs_lock_move, syncs_trylock_move, syncs_soundness, syncs_mutex_init, syncs_mutex_destroy}
use Rattle.ptk_words_invariant.proofs.Synced.{syncs_of_well, running_syncs, well_with_syncs, well_syncs_by}
use Rattle.ptk_words_invariant.proofs.SyncSizes.{sized_move, sized_unlock}
use Rattle.ptk_words_invariant.proofs.Parts.{well_memory}
use Rattle.ptk_words_invariant.proofs.Threads.{well_replied}
use Rattle.ptk_words_invariant.proofs.Starts.{IsFree, least_free_is}
use Rattle.ptk_words_invariant.proofs.Steps.{well_refusal, well_success, either_well, well_when, well_unless, well_given, Keeps}

-- ---- a word stored

pub length-stored : (s : Part) (pointer word : ℕ) → is_pointer s pointer 4 ≡ true → length (with_word s.memory pointer word) ≡ length s.memory
length-stored s pointer word within =
    let both : (pointer % 4 == 0 ≡ true) × (nat_le (pointer + 4) (length s.memory) ≡ true) = and_parts (pointer % 4 == 0) (nat_le (pointer + 4) (length s.memory)) within in
    length-with_bytes s.memory (to_le_bytes w32 word) pointer (leb-true (pointer + 4) (length s.memory) both.1)

-- a word is stored where it lies in memory
pub well_stored : (limits : Limits) (pointer word : ℕ) (s : Part) → is_pointer s pointer 4 ≡ true → IsWell limits s → IsWell limits (with_stored pointer word s)
well_stored limits pointer word s within well = well_memory limits (with_word s.memory pointer word) s (length-stored s pointer word within) well

-- ---- mutexes alone changed

-- these threads, line and mutexes, with the same condition variables (own)
abbrev locked_by : (Locks → Locks) → Syncs → Syncs
locked_by f syncs = record syncs { locks = f syncs.locks }

-- a new mutex at the least free number
pub well_new_mutex : (limits : Limits) (m : ℕ) (kind : MutexKind) (protocol : Protocol) (is_robust : Bool) (s : Part) → least_free s.mutexes ≡ Some m → IsWell limits s
    → IsWell limits (with_pool_mutex m (Some (new_mutex kind protocol is_robust)) s)
well_new_mutex limits m kind protocol is_robust s free well =
    let found : IsFree s.mutexes m = least_free_is s.mutexes m free in
    well_syncs_by limits (locked_by (λ locks. record locks { mutexes = pool_set locks.mutexes m (Some (new_mutex kind protocol is_robust)) })) s
    (record { threads = refl; mutexes = length-pool_set s.mutexes m (Some (new_mutex kind protocol is_robust)); conditions = refl })
    (syncs_mutex_init limits.interval m s.running s.console.waiters kind protocol is_robust s.syncs found.free (syncs_of_well limits s well)) well

-- the number of a mutex that is neither locked nor named by a waiter gets free
pub well_no_mutex : (limits : Limits) (m : ℕ) (s : Part) → is_locked (mutex_at s.locks m) ≡ false → names_mutex s.locks m ≡ false → IsWell limits s → IsWell limits (with_pool_mutex m None s)
well_no_mutex limits m s free unnamed well =
    well_syncs_by limits (locked_by (λ locks. record locks { mutexes = pool_set locks.mutexes m None })) s (record { threads = refl; mutexes = length-pool_set s.mutexes m None; conditions = refl })
    (syncs_mutex_destroy limits.interval m s.running s.console.waiters s.syncs free unnamed (syncs_of_well limits s well)) well

-- the mutex is unlocked
pub well_unlock : (limits : Limits) (m : ℕ) (s : Part) → IsWell limits s → IsWell limits (with_locks (after_unlock m) s)
well_unlock limits m s well =
    well_syncs_by limits (locked_by (after_unlock m)) s (sized_unlock m s.syncs) (syncs_unlock limits.interval m s.running s.console.waiters s.syncs (syncs_of_well limits s well)) well

-- what the mutex guards is sound again
pub well_consistent : (limits : Limits) (m : ℕ) (s : Part) → IsWell limits s → IsWell limits (with_locks (with_soundness Consistent m) s)
well_consistent limits m s well =
    well_syncs_by limits (locked_by (with_soundness Consistent m)) s (record { threads = refl; mutexes = length-changed m (λ mutex. record mutex { soundness = Consistent }) s.mutexes; conditions = refl })
    (syncs_soundness limits.interval m s.running s.console.waiters Consistent s.syncs (syncs_of_well limits s well)) well

-- ---- the word of a mutex

-- the mutex of a static initialiser is set up, and its number stored in the word
pub well_set_up : (limits : Limits) (m pointer : ℕ) (s : Part) → least_free s.mutexes ≡ Some m → is_pointer s pointer 4 ≡ true → IsWell limits s
    → IsWell limits (with_stored pointer m (with_pool_mutex m (Some (new_mutex Normal NoProtocol false)) s))
well_set_up limits m pointer s free within well =
    well_stored limits pointer m (with_pool_mutex m (Some (new_mutex Normal NoProtocol false)) s) within (well_new_mutex limits m Normal NoProtocol false s free well)

-- what a call does with the mutex leaves a whole state whole, in which the caller runs and the word lies in memory (own)
abbrev pub KeepsNamed : Invocation → (ℕ → Part → Answer) → Type 0
KeepsNamed i next = (m : ℕ) (u : Part) → u.running ≡ Some i.caller → is_pointer u i.a0 4 ≡ true → IsWell i.limits u → IsWell i.limits (next m u).part

set_up_at : (o : Option ℕ) (i : Invocation) (s : Part) (next : ℕ → Part → Answer) → least_free s.mutexes ≡ o → s.running ≡ Some i.caller → is_pointer s i.a0 4 ≡ true → IsWell i.limits s → KeepsNamed i next
    → IsWell i.limits (unwrap_or (option_map (λ m. next m (with_stored i.a0 m (with_pool_mutex m (Some (new_mutex Normal NoProtocol false)) s))) o) (refusal ENOMEM i s)).part
set_up_at None i s next free runs within well each = well_refusal i.limits ENOMEM i s well
set_up_at (Some m) i s next free runs within well each =
    each m (with_stored i.a0 m (with_pool_mutex m (Some (new_mutex Normal NoProtocol false)) s)) runs
    (ap (λ n. i.a0 % 4 == 0 && nat_le (i.a0 + 4) n) (length-stored s i.a0 m within) ∙ within) (well_set_up i.limits m i.a0 s free within well)

-- the mutex that the word of a0 names, which is set up where the word is 0
pub well_using_mutex : (i : Invocation) (s : Part) (rest : ℕ → Row) → s.running ≡ Some i.caller → is_pointer s i.a0 4 ≡ true → IsWell i.limits s → KeepsNamed i (λ m. rest m i) → IsWell i.limits (mutex_named i.a0 rest i s).part
well_using_mutex i s rest runs within well each =
    let named : ℕ = word_at s.memory i.a0 in
    either_well i.limits (named == 0) _ _ (λ zero. set_up_at (least_free s.mutexes) i s (λ m. rest m i) refl runs within well each)
    (λ number. well_unless i.limits EINVAL (is_some (mutex_at s.locks named)) (rest named i s) i s well (λ found. each named s runs within well))

-- a call whose word of a0 lies in memory, on the mutex that it names
well_named : (i : Invocation) (s : Part) (rest : ℕ → Row) → s.running ≡ Some i.caller → IsWell i.limits s → KeepsNamed i (λ m. rest m i) → IsWell i.limits (readable i.a0 4 (mutex_named i.a0 rest) i s).part
well_named i s rest runs well each = well_unless i.limits EFAULT (is_pointer s i.a0 4) (mutex_named i.a0 rest i s) i s well (λ within. well_using_mutex i s rest runs within well each)

-- ---- a move on a mutex

-- a move that does not wait, and this in a0
moved : (limits : Limits) (move : LockMove) (m word : ℕ) (i : Invocation) (s : Part) → s.running ≡ Some i.caller → AreSyncs limits.interval (Some i.caller) s.console.waiters (locked_by (after_move move i.caller m (MutexWait m None)) s.syncs)
    → IsWell limits s → IsWell limits (told (Some word) i (with_locks (after_move move i.caller m (MutexWait m None)) s)).part
moved limits move m word i s runs are well =
    let f : Locks → Locks = after_move move i.caller m (MutexWait m None) in
    let running : Option ℕ → Type 0 = λ (running : Option ℕ). AreSyncs limits.interval running s.console.waiters (locked_by f s.syncs) in
    well_replied limits i.caller (word ∷ []) (with_locks f s) (well_syncs_by limits (locked_by f) s (sized_move move i.caller m (MutexWait m None) s.syncs) (subst running (sym runs) are) well)

-- where the move leaves threads, line and mutexes whole, a call that makes it leaves the state so
move_at : (move : LockMove) (m : ℕ) (i : Invocation) (s : Part) → s.running ≡ Some i.caller
    → AreSyncs i.limits.interval (running_after move i.caller) s.console.waiters (locked_by (after_move move i.caller m (MutexWait m None)) s.syncs) → IsWell i.limits s → IsWell i.limits (make_move move m None i s).part
move_at Takes m i s runs are well = moved i.limits Takes m 0 i s runs are well
move_at Recovers m i s runs are well = moved i.limits Recovers m (errno_number EOWNERDEAD) i s runs are well
move_at Counts m i s runs are well = moved i.limits Counts m 0 i s runs are well
move_at Waits m i s runs are well =
    well_with_syncs i.limits s (locked_by (after_move Waits i.caller m (MutexWait m None)) s.syncs) None (sized_move Waits i.caller m (MutexWait m None) s.syncs) are (λ e. refl) well
move_at (Refuses e) m i s runs are well = moved i.limits (Refuses e) m (errno_number e) i s runs are well

pub well_lock_move : (m : ℕ) (i : Invocation) (s : Part) → s.running ≡ Some i.caller → IsWell i.limits s → IsWell i.limits (make_move (lock_move s.locks i.caller (mutex_at s.locks m)) m None i s).part
well_lock_move m i s runs well =
    move_at (lock_move s.locks i.caller (mutex_at s.locks m)) m i s runs (syncs_lock_move i.limits.interval i.caller m s.console.waiters s.syncs (running_syncs i.limits i.caller s runs well)) well

pub well_trylock_move : (m : ℕ) (i : Invocation) (s : Part) → s.running ≡ Some i.caller → IsWell i.limits s → IsWell i.limits (make_move (trylock_move s.locks i.caller (mutex_at s.locks m)) m None i s).part
well_trylock_move m i s runs well =
    move_at (trylock_move s.locks i.caller (mutex_at s.locks m)) m i s runs (syncs_trylock_move i.limits.interval i.caller m s.console.waiters s.syncs (running_syncs i.limits i.caller s runs well)) well

-- ---- calls 20 to 26

pub well_mutex_init : Keeps mutex_init
well_mutex_init i s runs well =
    well_unless i.limits EFAULT (is_pointer s i.a0 4) _ i s well
    (λ within. well_given i.limits (kind_of i.a1) EINVAL _ i s well
    (λ kind _. well_given i.limits (protocol_of i.a2 i.a3) EINVAL _ i s well
    (λ protocol _. well_given i.limits (least_free s.mutexes) ENOMEM _ i s well
    (λ m free. let made : Part = with_pool_mutex m (Some (new_mutex kind protocol (is_robust_type i.a1))) s in
    well_success i.limits [] i (with_stored i.a0 m made) (well_stored i.limits i.a0 m made within (well_new_mutex i.limits m kind protocol (is_robust_type i.a1) s free well))))))

pub well_mutex_destroy : Keeps mutex_destroy
well_mutex_destroy i s runs well =
    well_named i s destroy_named runs well
    (λ m u runs within well. well_when i.limits EBUSY (is_locked (mutex_at u.locks m) || names_mutex u.locks m) _ i u well
    (λ idle. let free : (is_locked (mutex_at u.locks m) ≡ false) × (names_mutex u.locks m ≡ false) = or_parts (is_locked (mutex_at u.locks m)) (names_mutex u.locks m) idle in
    well_success i.limits [] i (with_stored i.a0 DESTROYED (with_pool_mutex m None u)) (well_stored i.limits i.a0 DESTROYED (with_pool_mutex m None u) within (well_no_mutex i.limits m u free.0 free.1 well))))

pub well_mutex_lock : Keeps mutex_lock
well_mutex_lock i s runs well = well_named i s (lock_by None) runs well (λ m u runs within well. well_lock_move m i u runs well)

pub well_mutex_trylock : Keeps mutex_trylock
well_mutex_trylock i s runs well = well_named i s trylock_named runs well (λ m u runs within well. well_trylock_move m i u runs well)

pub well_mutex_unlock : Keeps mutex_unlock
well_mutex_unlock i s runs well =
    well_named i s unlock_named runs well
    (λ m u runs within well. well_unless i.limits EPERM (owns i.caller (mutex_at u.locks m)) _ i u well
    (λ own. well_success i.limits [] i (with_locks (after_unlock m) u) (well_unlock i.limits m u well)))

pub well_mutex_consistent : Keeps mutex_consistent
well_mutex_consistent i s runs well =
    well_named i s consistent_named runs well
    (λ m u runs within well. well_unless i.limits EINVAL (is_repairable (mutex_at u.locks m)) _ i u well
    (λ repairable. well_unless i.limits EPERM (owns i.caller (mutex_at u.locks m)) _ i u well
    (λ own. well_success i.limits [] i (with_locks (with_soundness Consistent m) u) (well_consistent i.limits m u well))))
