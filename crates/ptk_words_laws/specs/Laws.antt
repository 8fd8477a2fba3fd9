-- Laws of the definitions, as statements: each is the contract of a function without code.
use Rattle.std.specs.Prelude.{◌≡◌, ℕ, ◌≤◌, ◌↔◌, Option, Some, List, length, filter, not, AllPairs, IsPermutation, IsTrue, IsSome}
use Rattle.std.specs.List.{Contains}
use Rattle.ptk_words.specs.Calls.{calls, number_of, call_of, cost_of}
use Rattle.ptk_words.specs.Pools.{pool_get}
use Rattle.ptk_words.specs.declared.calls.Call.{Call}
use Rattle.ptk_words.specs.declared.threads.Thread.{Thread}
use Rattle.ptk_words_model.specs.State.{Mutex, Console}
use Rattle.ptk_words_model.specs.CallTable.{answer_of, answer_to}
use Rattle.ptk_words_model.specs.Chain.{Leads, leads_to}
use Rattle.ptk_words_model.specs.Priority.{next_in_chain, effective_of, IsEffectivePriority}
use Rattle.ptk_words_model.specs.Console.{is_due_at, arriving, without_arriving}
use Rattle.ptk_words_model.specs.Withdrawal.{Expiry, in_order}

-- ---- calls

-- every number costs 1 to 16 ticks, and one costs 16 (own)
pub record CostsAreSmall : Type 0 where
  pub positive : (number : ℕ) → 1 ≤ cost_of number
  pub at_most_sixteen : (number : ℕ) → cost_of number ≤ 16
  pub greatest : (number : ℕ) × (cost_of number ≡ 16)

-- every call stands in the list, is the call of its own number and of no other, and is answered by its row
pub record CallsAreNumbered : Type 0 where
  pub listed : (known : Call) → Contains calls known
  pub of_its_number : (known : Call) → call_of (number_of known) ≡ Some known
  pub of_no_other : (number : ℕ) → (known : Call) → call_of number ≡ Some known → number_of known ≡ number
  pub answered : (known : Call) → answer_to (call_of (number_of known)) ≡ answer_of known

-- ---- priorities

-- as many steps as there are numbers of threads decide whether a chain leads from one thread to another, on a cycle too (pthread_mutexattr_getprotocol)
abbrev pub ChainIsDecided : List (Option Thread) → List (Option Mutex) → Type 0
ChainIsDecided threads mutexes =
    (u t : ℕ) → IsTrue (leads_to (next_in_chain threads mutexes) t (length threads) u) ↔ Leads (next_in_chain threads mutexes) u t

-- effective_of computes the effective priority as it is defined: of a thread in use it is the greatest held priority of all threads in use whose chain leads to the thread (pthread_mutexattr_getprotocol)
abbrev pub PriorityIsGreatest : List (Option Thread) → List (Option Mutex) → Type 0
PriorityIsGreatest threads mutexes =
    (t : ℕ) → IsSome (pool_get threads t) → IsEffectivePriority threads mutexes t (effective_of threads mutexes t)

-- ---- arrivals

-- what arrives by the tick is all the input that is due, and what stays to come is all the rest
pub record IsPartedAt (tick : ℕ) (console : Console) : Type 0 where
  pub come : arriving tick console ≡ filter (is_due_at tick) console.coming
  pub stay : without_arriving tick console ≡ record console { coming = filter (λ arrival. not (is_due_at tick arrival)) console.coming }

-- where the ticks of the input still to come never fall, all of it that is due by a tick arrives by that tick, and the rest stays to come
abbrev pub ArrivalsAreDue : Console → Type 0
ArrivalsAreDue console = AllPairs (λ a b. a.tick ≤ b.tick) console.coming → (tick : ℕ) → IsPartedAt tick console

-- ---- expiries

-- the deadline is no later, and of equal deadlines the thread's number is no greater
abbrev pub IsNotAfter : Expiry → Expiry → Type 0
IsNotAfter a b = (a.deadline ≤ b.deadline) × (a.deadline ≡ b.deadline → a.thread ≤ b.thread)

-- expiries in order are the same expiries, by deadline and then by the thread's number (own)
pub record IsInOrder (expiries : List Expiry) : Type 0 where
  pub same : IsPermutation expiries (in_order expiries)
  pub ordered : AllPairs IsNotAfter (in_order expiries)
