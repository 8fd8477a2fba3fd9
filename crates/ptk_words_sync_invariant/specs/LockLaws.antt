-- That the moves of mutexes keep threads, line, mutexes and condition variables whole.
use Rattle.std.specs.Prelude.{◌≡◌, ℕ, false, List, Option, Some, None}
use Rattle.ptk_words.specs.declared.threads.Wait.TheVariants.{MutexWait}
use Rattle.ptk_words_model.specs.declared.LockMove.{LockMove}
use Rattle.ptk_words_model.specs.declared.LockMove.TheVariants.{Takes, Recovers, Counts, Waits, Refuses}
use Rattle.ptk_words_model.specs.State.{Syncs}
use Rattle.ptk_words_model.specs.Priority.{awaited, thread_at}
use Rattle.ptk_words_model.specs.Mutex.{mutex_at, owns, lock_move, trylock_move, after_move, after_unlock, after_owner_end}
use Rattle.ptk_words_sync_invariant.specs.Conditions.{AreSyncs}

-- who runs after the running thread's move: none where it waits (pthread_mutex_lock)
abbrev pub running_after : LockMove → ℕ → Option ℕ
running_after Takes t = Some t
running_after Recovers t = Some t
running_after Counts t = Some t
running_after Waits t = None
running_after (Refuses e) t = Some t

-- what the running thread t leaves is whole when it locks, tries to lock and unlocks mutex m (pthread_mutex_lock, pthread_mutex_trylock, pthread_mutex_unlock)
pub record AreMovesWhole (interval t m : ℕ) (waiters : List ℕ) (syncs : Syncs) : Type 0 where
  pub lock : AreSyncs interval (running_after (lock_move syncs.locks t (mutex_at syncs.locks m)) t) waiters (record syncs { locks = after_move (lock_move syncs.locks t (mutex_at syncs.locks m)) t m (MutexWait m None) syncs.locks })
  pub trylock : AreSyncs interval (running_after (trylock_move syncs.locks t (mutex_at syncs.locks m)) t) waiters (record syncs { locks = after_move (trylock_move syncs.locks t (mutex_at syncs.locks m)) t m (MutexWait m None) syncs.locks })
  pub unlock : AreSyncs interval (Some t) waiters (record syncs { locks = after_unlock m syncs.locks })

-- the moves of a running thread keep all whole
abbrev pub MutexMovesKeepSyncs : ℕ → List ℕ → Syncs → Type 0
MutexMovesKeepSyncs interval waiters syncs = (t m : ℕ) → AreSyncs interval (Some t) waiters syncs → AreMovesWhole interval t m waiters syncs

-- what the end of thread t leaves is whole, t owns no mutex, and is itself as before (pthread_mutexattr_setrobust)
pub record IsEndWhole (interval t : ℕ) (running : Option ℕ) (waiters : List ℕ) (syncs : Syncs) : Type 0 where
  pub whole : AreSyncs interval running waiters (record syncs { locks = after_owner_end t syncs.locks })
  pub owns_none : (m : ℕ) → owns t (mutex_at (after_owner_end t syncs.locks) m) ≡ false
  pub same : thread_at (after_owner_end t syncs.locks) t ≡ thread_at syncs.locks t

-- the end of a thread that waits for no mutex keeps all whole, and leaves it none
abbrev pub OwnerEndKeepsSyncs : ℕ → List ℕ → Syncs → Type 0
OwnerEndKeepsSyncs interval waiters syncs = (t : ℕ) (running : Option ℕ) → awaited (thread_at syncs.locks t) ≡ None → AreSyncs interval running waiters syncs → IsEndWhole interval t running waiters syncs
