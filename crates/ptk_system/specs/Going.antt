-- What stays the same of a partition's threads while only its running one works.
use Rattle.std.specs.Prelude.{◌≡◌, ℕ, ◌+◌, ◌<◌, ◌≤◌, Some, length, option_map}
use Rattle.ptk_words.specs.declared.TheConstants.{ECALL}
use Rattle.ptk_words.specs.declared.sections.Entry.{Entry}
use Rattle.ptk_words.specs.declared.threads.Thread.{Thread}
use Rattle.ptk_words.specs.declared.threads.Wait.{Wait}
use Rattle.ptk_words_model.specs.State.{Part}
use Rattle.ptk_words_model.specs.Mutex.{mutex_at}
use Rattle.ptk_words_model.specs.Priority.{effective_priority, thread_at}
use Rattle.ptk_words.specs.Threads.{mutex_of_wait}
use Rattle.ptk_system.specs.declared.activity.Activity.TheVariants.{Blocked, Running}
use Rattle.ptk_system.specs.Activities.{activity_in}
use Rattle.ptk_system.specs.World.{World, at_tick, but_next, state_of}

-- each thread does what it did, with the same priorities, and the mutex that it waits for is as it was; the partition has the same status, and no byte of input was dropped (XSH 2.8.4; pthread_mutex_lock; own)
pub record DoTheSame (s after : Part) : Type 0 where
  pub status : after.status ≡ s.status
  pub dropped : after.console.dropped ≡ s.console.dropped
  pub activities : (t : ℕ) → activity_in t after ≡ activity_in t s
  pub assigned : (t : ℕ) → option_map (λ (thread : Thread). thread.priority) (thread_at after.locks t) ≡ option_map (λ (thread : Thread). thread.priority) (thread_at s.locks t)
  pub effective : (t : ℕ) → effective_priority after.locks t ≡ effective_priority s.locks t
  pub mutexes : (t m : ℕ) (wait : Wait) → activity_in t s ≡ Blocked wait → mutex_of_wait (Some wait) ≡ Some m → mutex_at after.locks m ≡ mutex_at s.locks m

-- from the system's tick on and up to another each thread of the partition does what it did, no tick is lost, and each step is of the thread that runs at the system's tick (own)
pub record GoesOnAsIs (world : World) (p to : ℕ) : Type 0 where
  pub threads : (k : ℕ) → world.tick ≤ k → k ≤ to → DoTheSame (state_of world p).part (state_of (at_tick k world) p).part
  pub lost : (k : ℕ) → world.tick ≤ k → k ≤ to → (state_of (at_tick k world) p).account.lost ≡ (state_of world p).account.lost
  pub steps : (k : ℕ) → world.tick ≤ k → k < to → (state_of (at_tick k world) p).account.steps < (state_of (at_tick (k + 1) world) p).account.steps
      → (entry : Entry) → (state_of (at_tick (k + 1) world) p).part.last ≡ Some entry → activity_in entry.thread (state_of world p).part ≡ Running

-- from the system's tick on and up to another nothing happens to the partition behind a call (own)
abbrev pub StaysBehindCall : World → ℕ → ℕ → Type 0
StaysBehindCall world p to = (k : ℕ) → world.tick ≤ k → k < to → (state_of (at_tick k world) p).account.steps < (state_of (at_tick (k + 1) world) p).account.steps
    → (entry : Entry) → (state_of (at_tick (k + 1) world) p).part.last ≡ Some entry → entry.word ≡ ECALL → state_of (at_tick to world) p ≡ state_of (at_tick (k + 1) world) p

-- ---- nothing happens

-- nothing of the partition changes from the system's tick on and up to another but the tick of its next decision (own)
abbrev pub StandsStill : World → ℕ → ℕ → Type 0
StandsStill world p to = (k : ℕ) → world.tick ≤ k → k ≤ to → but_next (state_of (at_tick k world) p) ≡ but_next (state_of world p)

-- no later tick up to another is one up to which the partition stands still (own)
abbrev pub IsLatest : World → ℕ → ℕ → ℕ → Type 0
IsLatest world p end due = (k : ℕ) → k ≤ end → StandsStill world p k → k ≤ due

-- each partition of the system stands still (own)
abbrev pub AllStandStill : World → ℕ → Type 0
AllStandStill world to = (p : ℕ) → p < length world.config.sections → StandsStill world p to

-- no later tick up to another is one up to which all stand still (own)
abbrev pub IsLatestOfAll : World → ℕ → ℕ → Type 0
IsLatestOfAll world end due = (k : ℕ) → k ≤ end → AllStandStill world k → k ≤ due
