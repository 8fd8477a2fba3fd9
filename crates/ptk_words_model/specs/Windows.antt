-- The window plan, and of it what one partition sees: its own ticks and where each of its windows ends.
use Rattle.std.specs.Prelude.{◌≡◌, ℕ, ◌+◌, ◌-◌, ◌*◌, ◌/◌, ◌%◌, ◌<◌, ◌≤◌, Bool, ◌&&◌, List, [], map, filter, find, fold, flat_map, min, max, ◌==◌, nat_lt, nat_le, if◌then◌else◌, Option, option_map, is_some, Any, All, AllPairs}
use Rattle.std.specs.List.{reduce}
use Rattle.ptk_words_model.specs.declared.window.Window.{Window}

-- the windows that the frame has from the frame of this number on, until the next stage's (own)
pub record Stage : Type 0 where
  pub from : ℕ
  pub windows : List Window

-- a frame, which repeats, and by stages the windows that it has (own)
pub record WindowPlan : Type 0 where
  pub frame : ℕ
  pub stages : List Stage

-- the windows in the frame of this number: those of the last stage that has begun (own)
abbrev pub windows_in_frame : List Stage → ℕ → List Window
windows_in_frame stages number = fold (λ windows stage. if nat_le stage.from number then stage.windows else windows) [] stages

-- the windows in the frame that holds the tick (own)
abbrev pub windows_at : WindowPlan → ℕ → List Window
windows_at plan tick = windows_in_frame plan.stages (tick / plan.frame)

-- the place in the frame lies in the window
abbrev pub Holds : Window → ℕ → Type 0
Holds w place = (w.start ≤ place) × (place < w.start + w.length)

-- whether the place in the frame lies in the window
abbrev pub holds : Window → ℕ → Bool
holds w place = nat_le w.start place && nat_lt place (w.start + w.length)

-- the first tick of the frame that holds the tick
abbrev pub frame_start : ℕ → ℕ → ℕ
frame_start frame tick = tick - tick % frame

-- the first tick after the window, in the frame of the tick
abbrev pub end_from : ℕ → ℕ → Window → ℕ
end_from frame tick w = frame_start frame tick + (w.start + w.length)

-- the tick lies in a window of the partition
abbrev pub IsOwn : WindowPlan → ℕ → ℕ → Type 0
IsOwn plan p tick = Any (λ w. (w.partition ≡ p) × Holds w (tick % plan.frame)) (windows_at plan tick)

-- n is the partition's first tick that is not before the tick
pub record IsFirstOwn (plan : WindowPlan) (p tick n : ℕ) : Type 0 where
  pub own : IsOwn plan p n
  pub not_before : tick ≤ n
  pub least : (k : ℕ) → tick ≤ k → k < n → ¬ IsOwn plan p k

-- the tick lies in a window of the partition, and end is the first tick after that window
abbrev pub IsOwnUntil : WindowPlan → ℕ → ℕ → ℕ → Type 0
IsOwnUntil plan p tick end =
    Any (λ w. (w.partition ≡ p) × Holds w (tick % plan.frame) × (end ≡ end_from plan.frame tick w)) (windows_at plan tick)

-- the windows lie in the frame, are long enough for the dearest step, and no two have a common tick (own)
pub record IsTable (frame : ℕ) (windows : List Window) : Type 0 where
  pub positive : 0 < frame
  pub long : All (λ w. 16 ≤ w.length) windows
  pub within : All (λ w. w.start + w.length ≤ frame) windows
  pub apart : AllPairs (λ v w. (place : ℕ) → Holds v place → ¬ Holds w place) windows

-- a stage begins with frame 0, the stages' numbers rise strictly, and the windows of each are a table (own)
pub record IsPlan (plan : WindowPlan) : Type 0 where
  pub frame : 0 < plan.frame
  pub begins : Any (λ stage. stage.from ≡ 0) plan.stages
  pub rising : AllPairs (λ s u. s.from < u.from) plan.stages
  pub tables : All (λ stage. IsTable plan.frame stage.windows) plan.stages

-- the stage has begun by the frame of this number, and no other of them began later (own)
pub record IsInForce (stages : List Stage) (number : ℕ) (stage : Stage) : Type 0 where
  pub listed : Any (λ s. s ≡ stage) stages
  pub begun : stage.from ≤ number
  pub latest : All (λ s. s.from ≤ number → s.from ≤ stage.from) stages

-- ---- looked up in the lists

-- the windows of a partition
abbrev pub windows_of : ℕ → List Window → List Window
windows_of p windows = filter (λ w. w.partition == p) windows

-- the first tick of the window that is not before the tick, in its frame or the next
abbrev pub first_from : ℕ → ℕ → Window → ℕ
first_from frame tick w =
    if nat_lt (tick % frame) (w.start + w.length)
    then frame_start frame tick + max (tick % frame) w.start
    else frame_start frame tick + frame + w.start

-- the end of the partition's window that holds the tick, None where the tick is not its own
abbrev pub end_of : WindowPlan → ℕ → ℕ → Option ℕ
end_of plan p tick = option_map (end_from plan.frame tick) (find (λ w. holds w (tick % plan.frame)) (windows_of p (windows_at plan tick)))

-- of each of the partition's windows in a stage, the first tick that comes neither before the tick nor before the stage (own)
abbrev pub firsts_of : WindowPlan → ℕ → ℕ → Stage → List ℕ
firsts_of plan p tick stage = map (first_from plan.frame (max tick (stage.from * plan.frame))) (windows_of p stage.windows)

-- the least of those that are the partition's: a stage's may come when the next has begun (own)
abbrev pub first_own : WindowPlan → ℕ → ℕ → Option ℕ
first_own plan p tick = reduce min (filter (λ n. is_some (end_of plan p n)) (flat_map (firsts_of plan p tick) plan.stages))

-- what one partition sees of the plan: the end of its window that holds a tick, None where the tick is not its own, and its first tick not before a tick
pub record OwnTicks : Type 0 where
  pub end_at : ℕ → Option ℕ
  pub next_of : ℕ → Option ℕ

-- what the partition sees
abbrev pub own_ticks : WindowPlan → ℕ → OwnTicks
own_ticks plan p = record { end_at = end_of plan p; next_of = first_own plan p }
