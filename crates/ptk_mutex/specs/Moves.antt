-- The moves of the mutex calls, each on one partition's locks.
use Rattle.std.specs.Prelude.{Option, None, option_to_list}
use Rattle.ptk_words.specs.Names.{MutexNumber, Priority, ThreadNumber, Tick, Word}
use Rattle.ptk_words.specs.declared.threads.Wait.TheVariants.{MutexWait}
use Rattle.ptk_words_model.specs.State.{Locks}
use Rattle.ptk_words_model.specs.Schedule.{with_thread, after_wake}
use Rattle.ptk_words_model.specs.Mutex.{mutex_at, with_mutex, lock_move, trylock_move, after_move, without_mutex_waiter}
use Rattle.ptk_roster.specs.declared.slot.Change.{Change}
use Rattle.ptk_roster.specs.Changes.{mutex_changed}

-- the thread makes its move of lock; where it waits, it waits until the deadline, if there is one (pthread_mutex_lock, pthread_mutex_timedlock)
abbrev pub after_lock : ThreadNumber → MutexNumber → Option Tick → Locks → Locks
after_lock t m deadline locks = after_move (lock_move locks t (mutex_at locks m)) t m (MutexWait m deadline) locks

-- the thread makes its move of trylock (pthread_mutex_trylock)
abbrev pub after_trylock : ThreadNumber → MutexNumber → Locks → Locks
after_trylock t m locks = after_move (trylock_move locks t (mutex_at locks m)) t m (MutexWait m None) locks

-- the waiter leaves without the mutex and is woken, with this reply if it is told any (pthread_mutex_timedlock)
abbrev pub after_withdrawal : ThreadNumber → MutexNumber → Option Word → Locks → Locks
after_withdrawal t m reply locks = after_wake t (option_to_list reply) (without_mutex_waiter t m locks)

-- the thread has this assigned priority (pthread_setschedprio)
abbrev pub after_assignment : ThreadNumber → Priority → Locks → Locks
after_assignment t priority locks = with_thread t (λ thread. record thread { priority = priority }) locks

-- the mutex is changed so (own)
abbrev pub after_change : Change → MutexNumber → Locks → Locks
after_change change m locks = with_mutex m (mutex_changed change) locks
