-- A new condition variable in one partition's.
use Rattle.std.specs.Prelude.{List, [], Option, Some, option_map, unwrap_or}
use Rattle.ptk_words.specs.Pools.{pool_set, least_free}
use Rattle.ptk_words_model.specs.State.{Condition}
use Rattle.ptk_mutex.specs.Waiters.{condition_of}

-- a condition variable without waiters at the least free number, if there is one (pthread_cond_init)
abbrev pub with_new_condition : List (Option Condition) → List (Option Condition)
with_new_condition conditions = unwrap_or (option_map (λ c. pool_set conditions c (Some (condition_of []))) (least_free conditions)) conditions
