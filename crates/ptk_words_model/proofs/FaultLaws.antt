-- Windows without a fault are a table, and stages without one a plan.
use Rattle.std.proofs.Common.{◌≡◌, ℕ, ◌+◌, ◌<◌, ◌≤◌, Bool, true, false, not, cond, ltb, leb, List, [], ◌∷◌, map, Option, Some, None, Any, All, AllPairs, get_or, inl, inr, refl, arith}
use Rattle.std.specs.Option.{option_or}
use Rattle.std.specs.List.{list_any}
use Rattle.std.proofs.lemmas.Bool.{or_parts, and_parts, and_cases, ltb-false, leb-false, eqb-true, not-true}
use Rattle.std.proofs.lemmas.List.Elements.{All-nil, All-cons, All-head, All-tail, All-weaker}
use Rattle.std.proofs.lemmas.List.Kept.{AllPairs-cons}
use Rattle.ptk_words_model.specs.declared.fault.WindowFault.{WindowFault}
use Rattle.ptk_words_model.specs.declared.fault.WindowFault.TheVariants.{Short, Overlap, PastFrame, UnknownPartition, OutOfOrder}
use Rattle.ptk_words_model.specs.declared.window.Window.{Window}
use Rattle.ptk_words_model.specs.Windows.{Stage, Holds, IsTable, IsPlan}
use Rattle.ptk_words_model.specs.WindowFaults.{some_pair, first_fault, fault_of, are_overlapping, window_fault, begins_with_zero, is_not_later, is_ordered, plan_fault}
use Rattle.ptk_words_model.proofs.Lists.{Any-here}

cond-none : {E : Type 0} (b : Bool) (e : E) (o : Option E) → cond b (Some e) o ≡ None → (b ≡ false) × (o ≡ None)
cond-none true e o h = absurd cc
cond-none false e o h = (refl, h)

option_or-none : {E : Type 0} (a b : Option E) → option_or a b ≡ None → (a ≡ None) × (b ≡ None)
option_or-none None b h = (refl, h)
option_or-none (Some e) b h = absurd cc

first_fault-none : {A E : Type 0} (f : A → Option E) (xs : List A) → first_fault f xs ≡ None → All (λ x. f x ≡ None) xs
first_fault-none f [] h = All-nil (λ x. f x ≡ None)
first_fault-none f (x ∷ xs) h =
    let both = option_or-none (f x) (first_fault f xs) h in
    All-cons (λ y. f y ≡ None) x xs both.0 (first_fault-none f xs both.1)

list_any-none : {A : Type 0} (test : A → Bool) (xs : List A) → list_any test xs ≡ false → All (λ x. test x ≡ false) xs
list_any-none test [] h = All-nil (λ x. test x ≡ false)
list_any-none test (x ∷ xs) h =
    let both = or_parts (test x) (list_any test xs) h in
    All-cons (λ y. test y ≡ false) x xs both.0 (list_any-none test xs both.1)

some_pair-none : {A : Type 0} (r : A → A → Bool) (xs : List A) → some_pair r xs ≡ false → AllPairs (λ x y. r x y ≡ false) xs
some_pair-none r [] h = λ i j d before below. absurd (omega arith)
some_pair-none r (x ∷ xs) h =
    let both = or_parts (list_any (r x) xs) (some_pair r xs) h in
    AllPairs-cons (λ a b. r a b ≡ false) x xs (list_any-none (r x) xs both.0) (some_pair-none r xs both.1)

-- what a window without a fault is
pub record IsFine (frame parts : ℕ) (w : Window) : Type 0 where
  pub long : 16 ≤ w.length
  pub within : w.start + w.length ≤ frame
  pub known : w.partition < parts

fine : (frame parts : ℕ) (w : Window) → fault_of frame parts w ≡ None → IsFine frame parts w
fine frame parts w h =
    let one = cond-none (ltb w.length 16) Short (cond (ltb frame (w.start + w.length)) (Some PastFrame) (cond (leb parts w.partition) (Some UnknownPartition) None)) h in
    let two = cond-none (ltb frame (w.start + w.length)) PastFrame (cond (leb parts w.partition) (Some UnknownPartition) None) one.1 in
    let three = cond-none (leb parts w.partition) UnknownPartition None two.1 in
    record { long = ltb-false w.length 16 one.0; within = ltb-false frame (w.start + w.length) two.0; known = leb-false parts w.partition three.0 }

apart : (v w : Window) → are_overlapping v w ≡ false → (place : ℕ) → Holds v place → ¬ Holds w place
apart v w h place in_v in_w =
    elim (and_cases (ltb v.start (w.start + w.length)) (ltb w.start (v.start + v.length)) h) [
      | inl first ↦ omega (arith, ltb-false v.start (w.start + w.length) first, in_v.0, in_w.1)
      | inr second ↦ omega (arith, ltb-false w.start (v.start + v.length) second, in_w.0, in_v.1)
    ]

overlap-none : (b : Bool) → cond b (Some Overlap) None ≡ None → b ≡ false
overlap-none b h = (cond-none b Overlap None h).0

pub accepted_table : (frame parts : ℕ) (windows : List Window) → window_fault frame parts windows ≡ None → IsTable frame windows × All (λ w. w.partition < parts) windows
unfolding window_fault
accepted_table frame parts [] h = absurd cc
accepted_table frame parts (w ∷ ws) h =
    let both = option_or-none (first_fault (fault_of frame parts) (w ∷ ws)) (cond (some_pair are_overlapping (w ∷ ws)) (Some Overlap) None) h in
    let fines = All-weaker (λ v. fault_of frame parts v ≡ None) (IsFine frame parts) (fine frame parts) (w ∷ ws) (first_fault-none (fault_of frame parts) (w ∷ ws) both.0) in
    let first = All-head (IsFine frame parts) w ws fines in
    let pairs = some_pair-none are_overlapping (w ∷ ws) (overlap-none (some_pair are_overlapping (w ∷ ws)) both.1) in (
      record {
        positive = omega (arith, first.long, first.within);
        long = λ k d below. (fines k d below).long;
        within = λ k d below. (fines k d below).within;
        apart = λ i j d before below. apart (get_or (w ∷ ws) i d) (get_or (w ∷ ws) j d) (pairs i j d before below);
      },
      λ k d below. (fines k d below).known,
    )

-- ---- a plan
begins : (stages : List Stage) → begins_with_zero stages ≡ true → Any (λ stage. stage.from ≡ 0) stages
begins [] h = absurd cc
begins (stage ∷ stages) h = Any-here (λ s. s.from ≡ 0) stage stages (eqb-true stage.from 0 h)

ordered_or : (b : Bool) (o : Option WindowFault) → cond b o (Some OutOfOrder) ≡ None → (b ≡ true) × (o ≡ None)
ordered_or true o h = (refl, h)
ordered_or false o h = absurd cc

pub accepted : (frame parts : ℕ) (stages : List Stage) → plan_fault frame parts stages ≡ None
    → IsPlan (record { frame = frame; stages = stages }) × All (λ stage. All (λ w. w.partition < parts) stage.windows) stages
unfolding plan_fault
accepted frame parts stages h =
    let both = ordered_or (is_ordered stages) (first_fault (λ (stage : Stage). window_fault frame parts stage.windows) stages) h in
    let order = and_parts (begins_with_zero stages) (not (some_pair is_not_later stages)) both.0 in
    let tables = All-weaker (λ (stage : Stage). window_fault frame parts stage.windows ≡ None) (λ stage. IsTable frame stage.windows × All (λ w. w.partition < parts) stage.windows) (λ stage. accepted_table frame parts stage.windows) stages
    (first_fault-none (λ (stage : Stage). window_fault frame parts stage.windows) stages both.1) in
    let pairs = some_pair-none is_not_later stages (not-true _ order.1) in
    let first = begins stages order.0 in (
      record {
        frame = (tables first.0 first.1 first.2).0.positive;
        begins = first;
        rising = λ i j d before below. leb-false (get_or stages j d).from (get_or stages i d).from (pairs i j d before below);
        tables = λ k d below. (tables k d below).0;
      },
      λ k d below. (tables k d below).1,
    )

-- the windows of each stage of an accepted plan have no fault
pub accepted_windows : {A : Type 0} (frame parts : ℕ) (f : A → Stage) (xs : List A) → plan_fault frame parts (map f xs) ≡ None → All (λ x. window_fault frame parts (f x).windows ≡ None) xs
unfolding plan_fault
accepted_windows {A} frame parts f xs h =
    let both = ordered_or (is_ordered (map f xs)) (first_fault (λ (stage : Stage). window_fault frame parts stage.windows) (map f xs)) h in
    go xs (first_fault-none (λ (stage : Stage). window_fault frame parts stage.windows) (map f xs) both.1)
  where
    go : (ys : List A) → All (λ stage. window_fault frame parts stage.windows ≡ None) (map f ys) → All (λ x. window_fault frame parts (f x).windows ≡ None) ys
    go [] all = All-nil (λ x. window_fault frame parts (f x).windows ≡ None)
    go (y ∷ ys) all =
        All-cons (λ x. window_fault frame parts (f x).windows ≡ None) y ys (All-head (λ (stage : Stage). window_fault frame parts stage.windows ≡ None) (f y) (map f ys) all)
        (go ys (All-tail (λ (stage : Stage). window_fault frame parts stage.windows ≡ None) (f y) (map f ys) all))
