-- The priority that a thread has at least by a mutex that it owns.
use Rattle.std.specs.Prelude.{List, filter, Option, Some, None}
use Rattle.ptk_words.specs.Names.{MutexNumber, Priority, ThreadNumber}
use Rattle.ptk_words.specs.Pools.{pool_get, numbers_of, greatest}
use Rattle.ptk_words.specs.declared.threads.Thread.{Thread}
use Rattle.ptk_words.specs.declared.mutexes.Protocol.{Protocol}
use Rattle.ptk_words.specs.declared.mutexes.Protocol.TheVariants.{NoProtocol, Inherit, Protect}
use Rattle.ptk_words_model.specs.State.{Mutex}
use Rattle.ptk_words_model.specs.Priority.{awaited}
use Rattle.ptk_words_model.specs.Condition.{is_named}
use Rattle.ptk_threads.specs.Table.{stored_of}

-- the threads that wait for mutex m, by number (pthread_mutex_lock)
abbrev pub awaiting : MutexNumber → List (Option Thread) → List ThreadNumber
awaiting m threads = filter (λ t. is_named m (awaited (pool_get threads t))) (numbers_of threads)

-- by the protocol of mutex m: the ceiling, or the greatest stored priority of those that wait for it (pthread_mutexattr_getprotocol)
abbrev pub gained_by : List (Option Thread) → List Priority → MutexNumber → Protocol → Priority
gained_by threads stored m NoProtocol = 0
gained_by threads stored m Inherit = greatest (stored_of stored) (awaiting m threads)
gained_by threads stored m (Protect ceiling) = ceiling

-- what the mutex at a number gives its owner by its protocol, 0 of a free number (pthread_mutexattr_getprotocol)
abbrev pub gained_of : List (Option Thread) → List Priority → MutexNumber → Option Mutex → Priority
gained_of threads stored m None = 0
gained_of threads stored m (Some mutex) = gained_by threads stored m mutex.protocol
