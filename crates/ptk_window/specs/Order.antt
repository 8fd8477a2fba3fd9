-- The orders in which a stage's windows are looked up, and how an answer is told to each partition.
use Rattle.std.specs.Prelude.{◌≡◌, ℕ, ◌+◌, ◌<◌, ◌≤◌, ◌==◌, ◌&&◌, ◌||◌, nat_lt, nat_le, Bool, List, length, slice_index_or, Option, Some, None, if◌then◌else◌, AllPairs, IsPermutation}
use Rattle.ptk_words_model.specs.declared.window.Window.{Window}
use Rattle.ptk_words_model.specs.Windows.{IsTable}

-- each window ends before the next begins
abbrev pub AreInOrder : List Window → Type 0
AreInOrder = AllPairs (λ v w. v.start + v.length ≤ w.start)

-- the windows stand by partition, and each partition's in order
abbrev pub AreGrouped : List Window → Type 0
AreGrouped =
    AllPairs (λ v w. (v.partition ≤ w.partition) × (v.partition ≡ w.partition → v.start + v.length ≤ w.start))

-- at i stands the partition's first window that ends after the place in the frame
pub record IsFirstAfter (windows : List Window) (p place i : ℕ) : Type 0 where
  pub window : Window
  pub within : i < length windows
  pub is : slice_index_or windows i window ≡ window
  pub own : window.partition ≡ p
  pub after : place < window.start + window.length
  pub before : (k : ℕ) (d : Window) → k < i → (slice_index_or windows k d).partition ≡ p → (slice_index_or windows k d).start + (slice_index_or windows k d).length ≤ place

-- at i stands the partition's first window
pub record IsFirst (windows : List Window) (p i : ℕ) : Type 0 where
  pub within : i < length windows
  pub own : (d : Window) → (slice_index_or windows i d).partition ≡ p
  pub first : (k : ℕ) (d : Window) → k < i → ¬ ((slice_index_or windows k d).partition ≡ p)

-- the windows are a table, and the two lists have them in their orders
pub record IsOrdered (frame : ℕ) (given by_start by_partition : List Window) : Type 0 where
  pub table : IsTable frame given
  pub starts : IsPermutation given by_start
  pub in_order : AreInOrder by_start
  pub groups : IsPermutation given by_partition
  pub grouped : AreGrouped by_partition

-- the window is of a partition before p, or is p's and ends by the place
abbrev pub is_past : ℕ → ℕ → Window → Bool
is_past p place w = nat_lt w.partition p || (w.partition == p && nat_le (w.start + w.length) place)

-- of the partition and the end that were found, the end where the partition is p
abbrev pub end_of : ℕ → Option (ℕ × ℕ) → Option ℕ
end_of p None = None
end_of p (Some found) = if found.0 == p then Some found.1 else None
