-- How a run goes on: each partition by its turns, in which it is at a tick of its own.
use Rattle.std.specs.Prelude.{◌≡◌, ◌≢◌, ℕ, ◌+◌, ◌-◌, ◌<◌, ◌≤◌, true, Option, Some, IfSome}
use Rattle.ptk_words.specs.declared.sections.Limits.{Limits}
use Rattle.ptk_words.specs.declared.threads.Thread.{Thread}
use Rattle.ptk_words_model.specs.PlainSteps.{is_plain}
use Rattle.ptk_words_model.specs.Windows.{WindowPlan, OwnTicks, own_ticks}
use Rattle.ptk_words_model.specs.declared.Spent.{Spent}
use Rattle.ptk_words_model.specs.declared.Spent.TheVariants.{Idle}
use Rattle.ptk_words_model.specs.State.{Part, State}
use Rattle.ptk_words_model.specs.Decision.{after_decision, spent_by_decision}
use Rattle.ptk_words_laws.specs.Quiet.{AreOwn, IsQuiet, after_ticks, core_of}
use Rattle.ptk_words_laws.specs.Idle.{IsIdle}
use Rattle.ptk_window.specs.Walks.{Way}
use Rattle.ptk_window.specs.declared.near.Turn.{Turn}
use Rattle.ptk_kernel.specs.Kept.{limits_at}
use Rattle.ptk_system_machine.specs.declared.turns.First.{First}
use Rattle.ptk_system_machine.specs.Accounts.{duration_of}
use Rattle.ptk_system_machine.specs.Whole.{Whole, state_at}

-- from the tick on each tick is a partition's own, in one window that ends there, at most a frame later
pub record IsInWindow (ticks : OwnTicks) (tick end : ℕ) : Type 0 where
  pub before : tick < end
  pub own : AreOwn ticks tick end
  pub ends : (k : ℕ) → tick ≤ k → k < end → ticks.end_at k ≡ Some end
  pub near : end ≤ tick + 1000000

-- of a partition with this next decision the next turn in a run to a tick: it begins with that decision and ends with its window; it begins at the run's last tick where no decision comes before (own)
pub record IsComing (ticks : OwnTicks) (to : ℕ) (next : Option ℕ) (turn : Turn) : Type 0 where
  pub within : turn.start ≤ to
  pub due : turn.start < to → next ≡ Some turn.start
  pub window : turn.start < to → IsInWindow ticks turn.start turn.end

-- the way is the partition's through the plan's windows, and where it is known to be at one, that ends at this tick (own)
pub record IsAt (plan : WindowPlan) (p end : ℕ) (way : Way) : Type 0 where
  pub of_plan : way.plan ≡ plan
  pub of_partition : way.partition ≡ p
  pub at : IfSome way.end (λ known. known ≡ end)

-- a decision at the tick with this room spent this of a partition in the one state, and led to the other (own)
pub record HasDecided (limits : Limits) (tick room : ℕ) (spent : Spent) (old new : Part) : Type 0 where
  pub told : spent ≡ spent_by_decision limits tick room old
  pub moved : new ≡ after_decision limits tick room old

-- in a run to a tick the next decision comes at this one or later: behind the ticks of a decision with this room that spent this and left the partition so; after an idle one the partition may have nothing to do up to then (own)
pub record IsFreeFrom (tick room : ℕ) (spent : Spent) (to : ℕ) (part : Part) (from : ℕ) : Type 0 where
  pub behind : tick + duration_of room spent ≤ from
  pub idle : tick + duration_of room spent < from → (spent ≡ Idle) × (from ≤ to) × IsIdle from part

-- in a run from a tick to another a partition has come from the one state to the other, up to its next turn (own)
pub record IsUpTo (ticks : OwnTicks) (limits : Limits) (tick to : ℕ) (turn : Turn) (old new : State) : Type 0 where
  pub from : tick ≤ turn.start
  pub coming : IsComing ticks to new.account.next turn
  pub gone : new ≡ after_ticks ticks limits tick (turn.start - tick) old

-- in a run from a tick nothing happens to a partition in this state before another tick (own)
abbrev pub IsStillUntil : OwnTicks → Limits → ℕ → ℕ → State → Type 0
IsStillUntil ticks limits tick until s = (k : ℕ) → tick ≤ k → k ≤ until → after_ticks ticks limits tick (k - tick) s ≡ s

-- at the tick the partition is quiet, and its running thread's next step is plain (own)
pub record IsPlainAt (limits : Limits) (tick : ℕ) (s : Part) : Type 0 where
  pub t : ℕ
  pub thread : Thread
  pub quiet : IsQuiet limits tick (tick + 1) t thread s
  pub plain : is_plain (core_of thread s) ≡ true

-- of this many partitions, in a run from a tick to another, that one's turn begins first, if one begins before the run's last tick; up to there nothing happens to any of them, and up to the stop, which is later, to no other one (own)
pub record ComesFirst (plan : WindowPlan) (tick to count : ℕ) (whole : Whole) (first : First) : Type 0 where
  pub order : first.turn.start ≤ first.stop
  pub within : first.stop ≤ to
  pub due : first.turn.start < to → (first.p < count) × (first.turn.start < first.stop) × IsUpTo (own_ticks plan first.p) (limits_at first.p whole.kept) tick to first.turn (state_at first.p whole) (state_at first.p whole)
  pub still : (q : ℕ) → q < count → IsStillUntil (own_ticks plan q) (limits_at q whole.kept) tick first.turn.start (state_at q whole)
  pub others : (q : ℕ) → q < count → q ≢ first.p → IsStillUntil (own_ticks plan q) (limits_at q whole.kept) tick first.stop (state_at q whole)
