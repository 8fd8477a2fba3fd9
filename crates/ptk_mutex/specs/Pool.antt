-- A new mutex in a partition's pool.
use Rattle.std.specs.Prelude.{List, Option, Some, option_map, unwrap_or}
use Rattle.ptk_words.specs.Pools.{pool_set, least_free}
use Rattle.ptk_words_model.specs.State.{Mutex}

-- the mutex at the least free number, if there is one (pthread_mutex_init)
abbrev pub with_new_mutex : Mutex → List (Option Mutex) → List (Option Mutex)
with_new_mutex mutex mutexes = unwrap_or (option_map (λ m. pool_set mutexes m (Some mutex)) (least_free mutexes)) mutexes
