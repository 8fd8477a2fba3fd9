-- What holds of a partition's threads and mutexes between moves.
use Rattle.std.specs.Prelude.{◌≡◌, ℕ, ◌≤◌, Bool, true, false, not, ◌&&◌, List, [], nat_eq, Option, Some, None, is_none}
use Rattle.std.specs.List.{IsDistinct}
use Rattle.ptk_words.specs.Pools.{pool_get, is_in}
use Rattle.ptk_words.specs.Threads.{is_ended}
use Rattle.ptk_words.specs.declared.TheConstants.{COUNT_LIMIT}
use Rattle.ptk_words.specs.declared.threads.Thread.{Thread}
use Rattle.ptk_words_model.specs.State.{Mutex}
use Rattle.ptk_words_model.specs.Priority.{awaited}
use Rattle.ptk_words_model.specs.Mutex.{waiters_of, count_of, owns}
use Rattle.ptk_words_model.specs.MutexCalls.{is_locked}
use Rattle.ptk_words_model.specs.Unwinding.{is_alive}

-- the thread is in use, has not ended and waits for nothing: it runs or is ready (XSH 2.8.4)
abbrev pub is_ready : Option Thread → Bool
is_ready None = false
is_ready (Some thread) = is_none thread.wait && not (is_ended thread.phase)

-- the thread that waits for this one's end (pthread_join)
abbrev pub joiner_of : Option Thread → Option ℕ
joiner_of None = None
joiner_of (Some thread) = thread.joiner

-- the ticks that a thread used of its interval, 0 of a free number (XSH 2.8.4, SCHED_RR)
abbrev pub used_of : Option Thread → ℕ
used_of None = 0
used_of (Some thread) = thread.used

-- the mutexes agree with the threads: the waiters of each are the threads whose wait names it, none of them twice; an owner has not ended; a free mutex has no waiters; no count is above the limit (pthread_mutex_lock)
pub record AreMutexes (threads : List (Option Thread)) (mutexes : List (Option Mutex)) : Type 0 where
  pub waiters_wait : (m t : ℕ) → is_in t (waiters_of (pool_get mutexes m)) ≡ true → awaited (pool_get threads t) ≡ Some m
  pub waits_listed : (m t : ℕ) → awaited (pool_get threads t) ≡ Some m → is_in t (waiters_of (pool_get mutexes m)) ≡ true
  pub waiters_distinct : (m : ℕ) → IsDistinct nat_eq (waiters_of (pool_get mutexes m))
  pub owners_alive : (m t : ℕ) → owns t (pool_get mutexes m) ≡ true → is_alive (pool_get threads t) ≡ true
  pub free_unwaited : (m : ℕ) → is_locked (pool_get mutexes m) ≡ false → waiters_of (pool_get mutexes m) ≡ []
  pub counts : (m : ℕ) → count_of (pool_get mutexes m) ≤ COUNT_LIMIT

-- the threads of the line and the running one are ready, and stand in one place (XSH 2.8.4)
pub record AreLined (threads : List (Option Thread)) (line : List ℕ) (running : Option ℕ) : Type 0 where
  pub line_ready : (t : ℕ) → is_in t line ≡ true → is_ready (pool_get threads t) ≡ true
  pub line_distinct : IsDistinct nat_eq line
  pub running_ready : (t : ℕ) → running ≡ Some t → is_ready (pool_get threads t) ≡ true
  pub running_out : (t : ℕ) → running ≡ Some t → is_in t line ≡ false
