-- The calls on clocks and the timed lock of a mutex leave the state whole.
use Rattle.std.proofs.Common.{◌≡◌, ℕ, ◌+◌, ◌%◌, ◌≤◌, true, [], ◌∷◌, length, refl}
use Rattle.std.specs.Prelude.{Option, Some, None, ◌==◌, nat_le, if◌then◌else◌}
use Rattle.std.proofs.lemmas.Bool.{leb-true, and_parts}
use Rattle.ptk_words.specs.Faults.{errno_number}
use Rattle.ptk_words.specs.Words.{with_bytes}
use Rattle.ptk_words.specs.declared.faults.Errno.TheVariants.{EFAULT, EINVAL, EOWNERDEAD}
use Rattle.ptk_words.specs.declared.threads.Wait.{Wait}
use Rattle.ptk_words.specs.declared.threads.Wait.TheVariants.{SleepWait, MutexWait}
use Rattle.ptk_words.proofs.Pools.{length-changed}
use Rattle.ptk_words.proofs.Lists.{length-with_bytes}
use Rattle.ptk_words_model.specs.declared.Invocation.{Invocation}
use Rattle.ptk_words_model.specs.declared.LockMove.{LockMove}
use Rattle.ptk_words_model.specs.declared.LockMove.TheVariants.{Takes, Recovers, Counts, Waits, Refuses}
use Rattle.ptk_words_model.specs.State.{Syncs, Part, with_locks}
use Rattle.ptk_words_model.specs.Schedule.{with_thread}
use Rattle.ptk_words_model.specs.Time.{Timespec, timespec_at, time_bytes, is_timespec, deadline_of}
use Rattle.ptk_words_model.specs.Mutex.{mutex_at, lock_move, move_reply, after_move}
use Rattle.ptk_words_model.specs.Calls.{Answer, success, told, blocked_in, is_pointer, is_cancelled, cancellation_answer}
use Rattle.ptk_words_model.specs.MutexCalls.{timed_move, mutex_timedlock}
use Rattle.ptk_words_model.specs.TimeCalls.{is_no_clock, clock_gettime, clock_nanosleep}
use Rattle.ptk_words_sync_invariant.specs.LockLaws.{running_after}
use Rattle.ptk_words_sync_invariant.specs.Conditions.{AreSyncs}
use Rattle.ptk_words_sync_invariant.proofs.Timed.{syncs_timed_move}
use Rattle.ptk_words_sync_invariant.proofs.ConditionWaits.{syncs_sleep}
use Rattle.ptk_words_invariant.specs.Rests.{timedlock_named}
use Rattle.ptk_words_invariant.specs.Well.{IsWell}
use Rattle.ptk_words_invariant.proofs.Synced.{running_syncs, well_with_syncs, well_syncs_blocked}
use Rattle.ptk_words_invariant.proofs.SyncSizes.{sized_move}
use Rattle.ptk_words_invariant.proofs.Parts.{well_memory}
use Rattle.ptk_words_invariant.proofs.Threads.{well_replied}
use Rattle.ptk_words_invariant.proofs.Steps.{well_success, either_well, well_when, well_unless, well_cancellation_answer, Keeps}
use Rattle.ptk_words_invariant.proofs.NamedRows.{well_mutex_named}

-- ---- checks

-- so many bytes at a pointer end within memory
pub pointer_within : (s : Part) (pointer count : ℕ) → is_pointer s pointer count ≡ true → pointer + count ≤ length s.memory
pointer_within s pointer count within =
    let both : (pointer % 4 == 0 ≡ true) × (nat_le (pointer + count) (length s.memory) ≡ true) = and_parts (pointer % 4 == 0) (nat_le (pointer + count) (length s.memory)) within in
    leb-true (pointer + count) (length s.memory) both.1

-- a cancellation point, by what follows it
pub well_uncancelled : (rest : Answer) (i : Invocation) (s : Part) → s.running ≡ Some i.caller → IsWell i.limits s → IsWell i.limits rest.part → IsWell i.limits (if is_cancelled s i.caller then cancellation_answer i s else rest).part
well_uncancelled rest i s runs well goes = either_well i.limits (is_cancelled s i.caller) (cancellation_answer i s) rest (λ cancelled. well_cancellation_answer i.limits i s runs well) (λ goes_on. goes)

-- ---- calls 3 and 4: the clocks

pub well_clock_gettime : Keeps clock_gettime
well_clock_gettime i s runs well =
    well_unless i.limits EFAULT (is_pointer s i.a1 12) _ i s well
    (λ within. well_when i.limits EINVAL (is_no_clock i.a0) _ i s well
    (λ known. let stored : Part = record s { memory = with_bytes s.memory i.a1 (time_bytes i.tick) } in
    well_success i.limits [] i stored (well_memory i.limits (with_bytes s.memory i.a1 (time_bytes i.tick)) s (length-with_bytes s.memory (time_bytes i.tick) i.a1 (pointer_within s i.a1 12 within)) well)))

-- the caller sleeps until the deadline
well_asleep : (deadline : ℕ) (i : Invocation) (s : Part) → s.running ≡ Some i.caller → IsWell i.limits s → IsWell i.limits (blocked_in (SleepWait deadline) i s).part
well_asleep deadline i s runs well =
    let asleep : Syncs → Syncs = λ syncs. record syncs { locks = with_thread i.caller (λ thread. record thread { wait = Some (SleepWait deadline) }) syncs.locks } in
    well_syncs_blocked i.limits asleep s (record { threads = length-changed i.caller _ s.threads; mutexes = refl; conditions = refl })
    (syncs_sleep i.limits.interval i.caller deadline s.console.waiters s.syncs (running_syncs i.limits i.caller s runs well)) well

pub well_clock_nanosleep : Keeps clock_nanosleep
well_clock_nanosleep i s runs well =
    let time : Timespec = timespec_at s.memory i.a1 in
    well_unless i.limits EFAULT (is_pointer s i.a1 12) _ i s well
    (λ within. well_uncancelled _ i s runs well
    (well_when i.limits EINVAL (is_no_clock i.a0) _ i s well
    (λ known. well_unless i.limits EINVAL (is_timespec time) _ i s well
    (λ valid. either_well i.limits (nat_le (deadline_of time) i.tick) (success [] i s) (blocked_in (SleepWait (deadline_of time)) i s)
    (λ past. well_success i.limits [] i s well) (λ ahead. well_asleep (deadline_of time) i s runs well)))))

-- ---- a move on a mutex

-- the state after the move (own)
abbrev moved_by : LockMove → ℕ → ℕ → Wait → Part → Part
moved_by move t m wait s = with_locks (after_move move t m wait) s

-- a move after which the caller runs on, with this in a0
replied_move : (move : LockMove) (m word : ℕ) (wait : Wait) (i : Invocation) (s : Part) → s.running ≡ Some i.caller
    → AreSyncs i.limits.interval (Some i.caller) s.console.waiters (record (s.syncs) { locks = after_move move i.caller m wait s.locks }) → IsWell i.limits s
    → IsWell i.limits (told (Some word) i (moved_by move i.caller m wait s)).part
replied_move move m word wait i s runs are well =
    let after : Syncs = record (s.syncs) { locks = after_move move i.caller m wait s.locks } in
    let whole : AreSyncs i.limits.interval s.running s.console.waiters after = rw runs are in
    well_replied i.limits i.caller (word ∷ []) (moved_by move i.caller m wait s)
    (well_with_syncs i.limits s after s.running (sized_move move i.caller m wait s.syncs) whole well.halted well)

-- where a move leaves threads, line, mutexes and condition variables whole, a call that makes it and tells the caller of it leaves the state so
pub well_move : (move : LockMove) (m word : ℕ) (wait : Wait) (i : Invocation) (s : Part) → s.running ≡ Some i.caller
    → AreSyncs i.limits.interval (running_after move i.caller) s.console.waiters (record (s.syncs) { locks = after_move move i.caller m wait s.locks }) → IsWell i.limits s
    → IsWell i.limits (told (move_reply move (Some word)) i (moved_by move i.caller m wait s)).part
well_move Takes m word wait i s runs are well = replied_move Takes m word wait i s runs are well
well_move Recovers m word wait i s runs are well = replied_move Recovers m (errno_number EOWNERDEAD) wait i s runs are well
well_move Counts m word wait i s runs are well = replied_move Counts m word wait i s runs are well
well_move Waits m word wait i s runs are well =
    well_with_syncs i.limits s (record (s.syncs) { locks = after_move Waits i.caller m wait s.locks }) None (sized_move Waits i.caller m wait s.syncs) are (λ e. refl) well
well_move (Refuses e) m word wait i s runs are well = replied_move (Refuses e) m (errno_number e) wait i s runs are well

-- ---- call 24: a timed lock

pub well_mutex_timedlock : Keeps mutex_timedlock
well_mutex_timedlock i s runs well =
    well_unless i.limits EFAULT (is_pointer s i.a0 4) _ i s well
    (λ within. well_unless i.limits EFAULT (is_pointer s i.a1 12) _ i s well
    (λ timed. well_mutex_named i.a0 i s timedlock_named runs within well
    (λ m u kept well. let time : Timespec = timespec_at u.memory i.a1 in
    let deadline : Option ℕ = Some (deadline_of time) in
    well_move (timed_move (lock_move u.locks i.caller (mutex_at u.locks m)) time i.tick) m 0 (MutexWait m deadline) i u kept.runs
    (syncs_timed_move i.limits.interval i.caller m time i.tick deadline u.console.waiters u.syncs (running_syncs i.limits i.caller u kept.runs well)) well)))
