-- The mutexes and condition variables of each partition, with their waiters as the slot table's queues have them (own).
use Rattle.std.specs.Prelude.{ℕ, suc, Bool, true, false, List, [], ◌∷◌, ◌++◌, Option, Some, None}
use Rattle.ptk_words.specs.Pools.{without}
use Rattle.ptk_words.specs.Parts.{part_of}
use Rattle.ptk_words_model.specs.State.{Mutex, Condition}
use Rattle.ptk_roster.specs.Slots.{with_waiters}

-- what f makes of each of the list, which has this number and those after it
abbrev pub numbered_from : {A B : Type 0} → (ℕ → A → B) → ℕ → List A → List B
numbered_from f i [] = []
numbered_from f i (x ∷ xs) = f i x ∷ numbered_from f (suc i) xs

-- the condition variable with these waiters (pthread_cond_wait)
abbrev pub condition_of : List ℕ → Condition
condition_of waiters = record { waiters = waiters }

-- the condition variable with these waiters, where the number is in use
abbrev pub condition_if : Bool → List ℕ → Option Condition
condition_if false waiters = None
condition_if true waiters = Some (condition_of waiters)

-- the mutexes of a partition, of which none has waiters of its own: those of the first have place 32 among its queues
abbrev pub mutexes_in : List (List ℕ) → List (Option Mutex) → List (Option Mutex)
mutexes_in queues slots = numbered_from (λ i slot. with_waiters (part_of queues i) slot) 32 slots

-- the condition variables of a partition whose numbers are marked: the waiters of the first have place 96
abbrev pub conditions_in : List (List ℕ) → List Bool → List (Option Condition)
conditions_in queues marks = numbered_from (λ i is_used. condition_if is_used (part_of queues i)) 96 marks

-- by partition: the mutexes, with the waiters of their queues
abbrev pub mutexes_by : List (List (List ℕ)) → List (List (Option Mutex)) → List (List (Option Mutex))
mutexes_by queues slots = numbered_from (λ p part. mutexes_in (part_of queues p) part) 0 slots

-- by partition: the condition variables whose numbers are marked, with the waiters of their queues
abbrev pub conditions_by : List (List (List ℕ)) → List (List Bool) → List (List (Option Condition))
conditions_by queues marks = numbered_from (λ p part. conditions_in (part_of queues p) part) 0 marks

-- the mutex with the thread as its last waiter (pthread_mutex_lock)
abbrev pub waited_by : ℕ → Mutex → Mutex
waited_by t mutex = record mutex { waiters = mutex.waiters ++ t ∷ [] }

-- the mutex without the thread among its waiters (pthread_mutex_unlock)
abbrev pub left_by : ℕ → Mutex → Mutex
left_by t mutex = record mutex { waiters = without t mutex.waiters }
