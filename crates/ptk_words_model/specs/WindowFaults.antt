-- The first fault of a window table, and of a plan.
use Rattle.std.specs.Prelude.{ℕ, ◌+◌, not, ◌&&◌, ◌||◌, ◌==◌, nat_lt, nat_le, List, [], ◌∷◌, Bool, false, if◌then◌else◌, Option, Some, None}
use Rattle.std.specs.Option.{option_or}
use Rattle.std.specs.List.{list_any}
use Rattle.ptk_words_model.specs.declared.fault.WindowFault.{WindowFault}
use Rattle.ptk_words_model.specs.declared.fault.WindowFault.TheVariants.{Empty, Short, Overlap, PastFrame, UnknownPartition, OutOfOrder}
use Rattle.ptk_words_model.specs.declared.window.Window.{Window}
use Rattle.ptk_words_model.specs.Windows.{Stage}

-- some element and one after it are so related
abbrev pub some_pair : {A : Type 0} → (A → A → Bool) → List A → Bool
some_pair r [] = false
some_pair r (x ∷ xs) = list_any (r x) xs || some_pair r xs

-- the first fault that f finds
abbrev pub first_fault : {A E : Type 0} → (A → Option E) → List A → Option E
first_fault f [] = None
first_fault f (x ∷ xs) = option_or (f x) (first_fault f xs)

-- the fault of one window: too short for the dearest step, past the frame, of no partition (own)
abbrev pub fault_of : ℕ → ℕ → Window → Option WindowFault
fault_of frame parts w =
    if nat_lt w.length 16 then Some Short
    else if nat_lt frame (w.start + w.length) then Some PastFrame
    else if nat_le parts w.partition then Some UnknownPartition
    else None

-- the two, neither of them empty, have a common tick
abbrev pub are_overlapping : Window → Window → Bool
are_overlapping v w = nat_lt v.start (w.start + w.length) && nat_lt w.start (v.start + v.length)

-- the first fault of these windows for a frame and this many partitions (own)
unfoldable pub window_fault : ℕ → ℕ → List Window → Option WindowFault
window_fault frame parts [] = Some Empty
window_fault frame parts (w ∷ ws) =
    option_or (first_fault (fault_of frame parts) (w ∷ ws)) (if some_pair are_overlapping (w ∷ ws) then Some Overlap else None)

-- there is a first stage, and it begins with frame 0 (own)
abbrev pub begins_with_zero : List Stage → Bool
begins_with_zero [] = false
begins_with_zero (stage ∷ stages) = stage.from == 0

-- the second stage begins no later than the first (own)
abbrev pub is_not_later : Stage → Stage → Bool
is_not_later s u = nat_le u.from s.from

-- the numbers of the stages begin with 0 and rise strictly (own)
abbrev pub is_ordered : List Stage → Bool
is_ordered stages = begins_with_zero stages && not (some_pair is_not_later stages)

-- the first fault of these stages for a frame and this many partitions: that of their numbers, then those of their windows, stage by stage (own)
unfoldable pub plan_fault : ℕ → ℕ → List Stage → Option WindowFault
plan_fault frame parts stages =
    if is_ordered stages then first_fault (λ stage. window_fault frame parts stage.windows) stages else Some OutOfOrder
