-- The rests of the rows of calls 24 and 30 to 35.
use Rattle.std.proofs.Common.{◌≡◌, ℕ, ◌<◌, true}
use Rattle.std.specs.Prelude.{Some}
use Rattle.ptk_words.specs.declared.TheConstants.{COUNT_LIMIT}
use Rattle.ptk_words.specs.declared.sections.Limits.{Limits}
use Rattle.ptk_words.proofs.Lists.{empty_from_length}
use Rattle.ptk_words_model.specs.declared.LockMove.TheVariants.{Counts}
use Rattle.ptk_words_model.specs.State.{Part, with_locks}
use Rattle.ptk_words_model.specs.Mutex.{mutex_at, owns, count_of, relock_move, after_unlock}
use Rattle.ptk_words_sync_invariant.proofs.ConditionWaits.{room_unlock, owned_used}
use Rattle.ptk_words_invariant.specs.Well.{IsWell}
use Rattle.ptk_words_invariant.proofs.Synced.{running_syncs}
use Rattle.ptk_words_invariant.proofs.MutexCalls.{well_unlock}
use Rattle.ptk_gate_moves.specs.Tables.{AreLocked, MayWait}
use Rattle.ptk_words_sync_invariant.specs.Conditions.{IsNoWaiter}
use Rattle.ptk_gate_moves.proofs.NoWaiters.{runner_apart}
use Rattle.ptk_gate_moves.proofs.Locked.{locked_of, may_wait}

-- ---- destruction

pub ruleset unwaited = (empty_from_length)

-- ---- a deadline that has come

-- the mutex released, the mutexes are used as they should be
pub released_locked : (limits : Limits) (m : ℕ) (s : Part) → IsWell limits s → AreLocked (after_unlock m s.locks)
released_locked limits m s well = locked_of limits (with_locks (after_unlock m) s) (well_unlock limits m s well)

-- the running thread may lock it again
pub released_wait : (limits : Limits) (m t : ℕ) (s : Part) → IsWell limits s → s.running ≡ Some t → MayWait (after_unlock m s.locks) t
released_wait limits m t s well runs = may_wait limits (with_locks (after_unlock m) s) t (well_unlock limits m s well) runs

-- and is in no list of waiters
pub released_free : (limits : Limits) (m t : ℕ) (s : Part) → IsWell limits s → s.running ≡ Some t → IsNoWaiter t (after_unlock m s.locks).mutexes s.conditions
released_free limits m t s well runs = runner_apart limits t (with_locks (after_unlock m) s) (well_unlock limits m s well) runs

-- and count it up, where it is still its own
pub released_count : (limits : Limits) (m t : ℕ) (s : Part) → IsWell limits s → s.running ≡ Some t → owns t (mutex_at s.locks m) ≡ true
    → relock_move t (mutex_at (after_unlock m s.locks) m) ≡ Counts → count_of (mutex_at (after_unlock m s.locks) m) < COUNT_LIMIT
released_count limits m t s well runs own =
    (room_unlock limits.interval t m (Some t) s.console.waiters s.syncs (owned_used t (mutex_at s.locks m) own) (running_syncs limits t s runs well)).room

pub ruleset released = (released_locked, released_wait, released_free, released_count)
