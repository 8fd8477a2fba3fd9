-- The windows of a stage, sorted, stand in the orders of the look-ups.
use Rattle.std.proofs.Common.{◌≡◌, ℕ, zero, suc, ◌+◌, ◌-◌, ◌<◌, ◌≤◌, List, length, get_or, None, All, AllPairs, IsPermutation, IsSortedByKey, nat_cmp, sym, subst, inl, inr, arith, add-zero}
use Rattle.std.specs.List.Sorted.{IsNonDecreasingBy}
use Rattle.std.proofs.lemmas.Bool.{cases_lt}
use Rattle.std.proofs.lemmas.List.Sorted.{All-permutation, IsNonDecreasingBy-from_sort, IsPermutation-trans}
use Rattle.ptk_words_model.specs.declared.window.Window.{Window}
use Rattle.ptk_words_model.specs.WindowFaults.{window_fault}
use Rattle.ptk_words_model.specs.Windows.{Holds, IsTable}
use Rattle.ptk_words_model.proofs.FaultLaws.{accepted_table}
use Rattle.ptk_words_model.proofs.Places.{Fits}
use Rattle.ptk_words_model.proofs.OwnLaws.{all_fit}
use Rattle.ptk_window.specs.Order.{AreInOrder, AreGrouped, IsOrdered}
use Rattle.ptk_window.proofs.Permuted.{AllPairs-permutation}

abbrev Apart : Window → Window → Type 0
Apart v w = (place : ℕ) → Holds v place → ¬ Holds w place

-- of two windows with ticks and no common one, that of the lower start ends before the other begins
before_from : (frame : ℕ) (v w : Window) → Fits frame v → Fits frame w → Apart v w → v.start ≤ w.start → v.start + v.length ≤ w.start
before_from frame v w v_fits w_fits apart low =
    elim (cases_lt w.start (v.start + v.length)) [
      | inl inside ↦ absurd (apart w.start (low, inside) (omega arith, omega (arith, w_fits.long)))
      | inr past ↦ past
    ]

in_order : (frame : ℕ) (ws : List Window) → All (Fits frame) ws → AllPairs Apart ws → IsNonDecreasingBy (λ (w : Window). w.start) ws → AreInOrder ws
in_order frame ws fit apart rises i j d before below =
    before_from frame (get_or ws i d) (get_or ws j d) (fit i d (omega arith)) (fit j d below) (apart i j d before below) (rises i j d (omega arith) below)

-- among elements of one partition the starts rise
abbrev TiesRise : List Window → Type 0
TiesRise ws = (k : ℕ) (d : Window) → k + 1 < length ws → (get_or ws k d).partition ≡ (get_or ws (k + 1) d).partition → (get_or ws k d).start ≤ (get_or ws (k + 1) d).start

ties_far : (ws : List Window) → IsNonDecreasingBy (λ (w : Window). w.partition) ws → TiesRise ws → (i n : ℕ) (d : Window) → i + n < length ws → (get_or ws i d).partition ≡ (get_or ws (i + n) d).partition → (get_or ws i d).start ≤ (get_or ws (i + n) d).start
ties_far ws groups ties i zero d below same = subst (λ (k : ℕ). (get_or ws i d).start ≤ (get_or ws k d).start) (sym (add-zero i)) (omega arith)
ties_far ws groups ties i (suc n) d below same =
    let step : i + suc n ≡ (i + n) + 1 = omega arith in
    let under : (i + n) + 1 < length ws = omega arith in
    let all : (get_or ws i d).partition ≡ (get_or ws ((i + n) + 1) d).partition = subst (λ (k : ℕ). (get_or ws i d).partition ≡ (get_or ws k d).partition) step same in
    let low = groups i (i + n) d (omega arith) (omega arith) in
    let high = groups (i + n) ((i + n) + 1) d (omega arith) under in
    let first : (get_or ws i d).partition ≡ (get_or ws (i + n) d).partition = omega arith in
    let second : (get_or ws (i + n) d).partition ≡ (get_or ws ((i + n) + 1) d).partition = omega arith in
    let near = ties_far ws groups ties i n d (omega arith) first in
    let last = ties (i + n) d under second in
    subst (λ (k : ℕ). (get_or ws i d).start ≤ (get_or ws k d).start) (sym step) (omega (arith, near, last))

grouped : (frame : ℕ) (ws : List Window) → All (Fits frame) ws → AllPairs Apart ws → IsNonDecreasingBy (λ (w : Window). w.partition) ws → TiesRise ws → AreGrouped ws
grouped frame ws fit apart groups ties i j d before below = (
  groups i j d (omega arith) below,
  λ same.
      let step : i + (j - i) ≡ j = omega arith in
      let rise = ties_far ws groups ties i (j - i) d (omega arith) (subst (λ (k : ℕ). (get_or ws i d).partition ≡ (get_or ws k d).partition) (sym step) same) in
      before_from frame (get_or ws i d) (get_or ws j d) (fit i d (omega arith)) (fit j d below) (apart i j d before below)
      (subst (λ (k : ℕ). (get_or ws i d).start ≤ (get_or ws k d).start) step rise),
)

pub ordered : (frame parts : ℕ) (given starts groups : List Window) → window_fault frame parts given ≡ None → IsPermutation given starts → IsSortedByKey (λ (w : Window). w.start) nat_cmp starts → IsPermutation starts groups → IsNonDecreasingBy (λ (w : Window). w.partition) groups → TiesRise groups → IsOrdered frame given starts groups
ordered frame parts given starts groups fine by_start sorted by_partition parted ties =
    let is : IsTable frame given = (accepted_table frame parts given fine).0 in
    let moved = IsPermutation-trans given starts groups by_start by_partition in
    let fit : All (Fits frame) given = all_fit frame given is in
    let turn = λ (v w : Window) (apart : Apart v w) (place : ℕ) (in_w : Holds w place) (in_v : Holds v place). apart place in_v in_w in
    record {
      table = is;
      starts = by_start;
      in_order = in_order frame starts (All-permutation (Fits frame) given starts by_start fit) (AllPairs-permutation Apart turn given starts by_start is.apart) (IsNonDecreasingBy-from_sort (λ (w : Window). w.start) starts sorted);
      groups = moved;
      grouped = grouped frame groups (All-permutation (Fits frame) given groups moved fit) (AllPairs-permutation Apart turn given groups moved is.apart) parted ties;
    }
