-- Runs over window plans: windows that move, go to another partition, or are lost for some frames.
use Rattle.std.specs.Prelude.{◌≡◌, [], ◌∷◌, codes, Some}
use Rattle.ptk_words.specs.Names.{Ticks}
use Rattle.ptk_words_model.specs.Windows.{OwnTicks}
use Rattle.ptk_words_model.specs.State.{State}
use Rattle.ptk_words_model.specs.Text.{report_text}
use Rattle.ptk_words_laws.specs.Guests.{image_of_words, small, window, halves, from_frame, own_by, run, name, lines}
use Rattle.ptk_words_laws.specs.Rows.Runs.{late_lock_image}

-- the first of two partitions whose halves are swapped from frame 2 on
abbrev pub swapped : OwnTicks
swapped = own_by 40 (from_frame 0 halves ∷ from_frame 2 (window 0 20 1 ∷ window 20 20 0 ∷ []) ∷ []) 0

-- the run of a jump to itself in these windows, after n ticks
abbrev pub swapped_at : Ticks → State
swapped_at n = run swapped small (image_of_words (0x0000006f ∷ []) []) n

-- the first half of the frames 0 and 1, and the second half of frame 2; the tick at which frame 2 begins is the other's (own)
pub record SwappedPlan : Type 0 where
  pub first_frame : (swapped_at 20).account.steps ≡ 20
  pub second_frame : (swapped_at 40).account.steps ≡ 20
  pub second_half : (swapped_at 60).account.steps ≡ 40
  pub next : (swapped_at 60).account.next ≡ Some 100
  pub third_frame : (swapped_at 100).account.steps ≡ 40
  pub report : report_text name (swapped_at 120) ≡ lines (codes "partition p running steps 60 lost 0" ∷ codes "output 0" ∷ [] ∷ [])

-- the first half of frame 0, and from frame 1 on the second half
abbrev pub moved : OwnTicks
moved = own_by 40 (from_frame 0 halves ∷ from_frame 1 (window 20 20 0 ∷ []) ∷ []) 0

-- a lock that lost the end of its window begins with the window of the next plan (own)
pub record MovedWindow : Type 0 where
  pub next : (run moved small late_lock_image 20).account.next ≡ Some 60
  pub before : report_text name (run moved small late_lock_image 60) ≡ lines (codes "partition p running steps 18 lost 2" ∷ codes "output 0" ∷ [] ∷ [])
  pub after : report_text name (run moved small late_lock_image 68) ≡ lines (codes "partition p running steps 19 lost 2" ∷ codes "output 0" ∷ [] ∷ [])

-- the first half of frame 0, no window in the frames 1 and 2, and from frame 3 on the first half again
abbrev pub regained : OwnTicks
regained = own_by 40 (from_frame 0 halves ∷ from_frame 1 (window 0 20 1 ∷ []) ∷ from_frame 3 (window 0 20 0 ∷ []) ∷ []) 0

-- a partition that has lost its windows goes on where it has one again (own)
pub record WindowLostAndRegained : Type 0 where
  pub next : (run regained small late_lock_image 20).account.next ≡ Some 120
  pub before : report_text name (run regained small late_lock_image 120) ≡ lines (codes "partition p running steps 18 lost 2" ∷ codes "output 0" ∷ [] ∷ [])
  pub after : report_text name (run regained small late_lock_image 128) ≡ lines (codes "partition p running steps 19 lost 2" ∷ codes "output 0" ∷ [] ∷ [])
