-- The expiries of a tick one at a time: each time the least due deadline.
use Rattle.std.specs.Prelude.{◌≡◌, ℕ, ◌<◌, ◌≤◌, false, List, ◌∷◌, filter, filter_map, nat_le, slice_get, Option, Some, None, MatchOption}
use Rattle.std.specs.List.{enumerate_from}
use Rattle.ptk_words.specs.Names.{Tick}
use Rattle.ptk_words.specs.Pools.{pool_get, pool_set}
use Rattle.ptk_words_model.specs.State.{Part}
use Rattle.ptk_words_model.specs.Priority.{thread_at}
use Rattle.ptk_words_model.specs.Mutex.{wait_of}
use Rattle.ptk_words_model.specs.Withdrawal.{Expiry, expiry_of, expires_before, in_order, due, deadlines_of, after_timeout, after_expiries}
use Rattle.ptk_words_sync_invariant.specs.Conditions.{AreSyncs}

-- the threads whose deadline is at most the tick, of deadlines by thread number
abbrev pub due_among : Tick → List (Option Tick) → List Expiry
due_among tick deadlines = filter (λ a. nat_le a.deadline tick) (filter_map expiry_of (enumerate_from 1 deadlines))

-- the first of them by (deadline, number), None where none is due (own)
abbrev pub next_expiry : Tick → List (Option Tick) → Option Expiry
next_expiry tick deadlines = slice_get (in_order (due_among tick deadlines)) 0

-- ---- which one is next

-- thread and deadline are of the list, due, and none that is due is before it
pub record IsLeastDue (tick : Tick) (deadlines : List (Option Tick)) (a : Expiry) : Type 0 where
  pub own : pool_get deadlines a.thread ≡ Some a.deadline
  pub due : a.deadline ≤ tick
  pub least : (b : Expiry) → pool_get deadlines b.thread ≡ Some b.deadline → b.deadline ≤ tick → expires_before b a ≡ false

-- none of the deadlines is due
abbrev pub IsNoneDue : Tick → List (Option Tick) → Type 0
IsNoneDue tick deadlines = (t deadline : ℕ) → pool_get deadlines t ≡ Some deadline → tick < deadline

-- it is the least due one, None where none is due
abbrev pub IsNextExpiry : Tick → List (Option Tick) → Option Expiry → Type 0
IsNextExpiry tick deadlines next = MatchOption next (IsNoneDue tick deadlines) (IsLeastDue tick deadlines)

-- ---- one after another

-- the state after the timeout of the expiry's thread
abbrev pub after_expiry : Expiry → Part → Part
after_expiry a s = after_timeout a.thread (wait_of (thread_at s.locks a.thread)) s

-- the state after the next expiry's timeout and the expiries that are due then; where none is next, as it is (own)
abbrev pub after_next_expiry : Tick → Option Expiry → Part → Part
after_next_expiry tick None s = s
after_next_expiry tick (Some a) s = after_expiries tick (after_expiry a s)

-- the due deadlines in order are the least one, and those that are due without it; so too after its thread's timeout
pub record AreExpiriesInTurn (tick : Tick) (a : Expiry) (s : Part) : Type 0 where
  pub deadlines : deadlines_of (after_expiry a s).locks ≡ pool_set (deadlines_of s.locks) a.thread None
  pub rest : in_order (due tick s) ≡ a ∷ in_order (due_among tick (pool_set (deadlines_of s.locks) a.thread None))
  pub later : in_order (due tick s) ≡ a ∷ in_order (due tick (after_expiry a s))

-- one timeout keeps all whole
abbrev pub IsExpiryWhole : ℕ → Expiry → Part → Type 0
IsExpiryWhole interval a s =
    AreSyncs interval s.running s.console.waiters s.syncs → AreSyncs interval (after_expiry a s).running (after_expiry a s).console.waiters (after_expiry a s).syncs
