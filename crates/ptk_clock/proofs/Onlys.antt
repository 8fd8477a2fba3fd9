-- The only deadline of a partition set: what its partition sees of it, and what the others do.
use Rattle.std.proofs.Common.{◌≡◌, ℕ, zero, suc, ◌+◌, ◌-◌, ◌<◌, ◌≤◌, List, [], ◌∷◌, length, false, refl, sym, ◌∙◌, ap, arith, Option, Some, None, ◌⊎◌, inl, inr}
use Rattle.std.specs.Prelude.{slice_get, slice_set}
use Rattle.ptk_words.specs.Names.{Tick}
use Rattle.ptk_words.specs.Pools.{pool_set, is_in}
use Rattle.ptk_clock.specs.declared.threads.PartitionSlots.{PartitionSlots}
use Rattle.ptk_clock.specs.Pairs.{Pair, slots_of, with_pair}
use Rattle.ptk_clock.specs.BySlot.{deadlines_from}
use Rattle.ptk_clock.specs.ByThread.{earlier, least_deadline, AreLeast, AreThreadDeadlines, IsElsewhereSame, with_least}
use Rattle.ptk_clock.proofs.BySlot.{deadlines_from-with, deadlines_from-with_other}
use Rattle.ptk_clock.proofs.Expiries.{length-deadlines_from, slot_free}
use Rattle.ptk_clock.proofs.LeastDeadlines.{all_free}
use Rattle.ptk_clock.proofs.SlotMoves.{away}
use Rattle.ptk_clock.proofs.ByThread.{least_at, part_of-by}

-- a partition whose kept deadline is none has none
pub none_kept : (slots p : ℕ) (ss : List PartitionSlots) (s : PartitionSlots) (xs : List Pair) → AreThreadDeadlines slots xs ss → slice_get ss p ≡ Some s → s.next ≡ None → least_deadline (deadlines_from s.first s.count xs) ≡ None
none_kept slots p ss s xs h e none = ap least_deadline (sym (part_of-by p ss s xs e)) ∙ sym (least_at p ss s xs h.least e) ∙ none

-- its slots have no pair
pub only_fresh : (first n t slot : ℕ) (xs : List Pair) → least_deadline (deadlines_from first n xs) ≡ None → 0 < t → t ≤ n → slot ≡ first + (t - 1) → is_in slot (slots_of xs) ≡ false
only_fresh first n t slot xs none pos le at = slot_free first n slot xs (omega (arith, at)) (omega (arith, at, pos, le)) (all_free (slot - first + 1) (deadlines_from first n xs) none)

own_at : (first n t d slot : ℕ) (xs : List Pair) → is_in slot (slots_of xs) ≡ false → 0 < t → t ≤ n → slot ≡ first + (t - 1) → deadlines_from first n (with_pair (d, slot) xs) ≡ pool_set (deadlines_from first n xs) t (Some d)
own_at first n zero d slot xs out pos le at = absurd (omega (arith, pos))
own_at first n (suc i) d slot xs out pos le at =
    let place : slot - first ≡ i = omega (arith, at) in
    deadlines_from-with first n d slot xs out (omega (arith, at)) (omega (arith, at, le)) ∙ ap (λ k. slice_set (deadlines_from first n xs) k (Some d)) place

pub only_own : (first n t d slot : ℕ) (xs ys : List Pair) → least_deadline (deadlines_from first n xs) ≡ None → 0 < t → t ≤ n → slot ≡ first + (t - 1) → ys ≡ with_pair (d, slot) xs → deadlines_from first n ys ≡ pool_set (deadlines_from first n xs) t (Some d)
only_own first n t d slot xs ys none pos le at added = ap (deadlines_from first n) added ∙ own_at first n t d slot xs (only_fresh first n t slot xs none pos le at) pos le at

slot_away : (first n t slot start m : ℕ) → slot ≡ first + (t - 1) → (first + (t - 1) < start) ⊎ (start + m ≤ first + (t - 1)) → (slot < start) ⊎ (start + m ≤ slot)
slot_away first n t slot start m at (inl before) = inl (omega (arith, at, before))
slot_away first n t slot start m at (inr behind) = inr (omega (arith, at, behind))

pub only_elsewhere : (first n t d slot : ℕ) (xs ys : List Pair) → least_deadline (deadlines_from first n xs) ≡ None → 0 < t → t ≤ n → slot ≡ first + (t - 1) → ys ≡ with_pair (d, slot) xs → IsElsewhereSame first n xs ys
only_elsewhere first n t d slot xs ys none pos le at added = λ start m apart.
    (ap (deadlines_from start m) added ∙ deadlines_from-with_other start m d slot xs (only_fresh first n t slot xs none pos le at) (slot_away first n t slot start m at (away first n t start m pos le apart)))

-- ---- it is the least

first_none : (x rest : Option Tick) → earlier x rest ≡ None → x ≡ None
first_none None rest e = refl
first_none (Some a) None e = e
first_none (Some a) (Some b) e = absurd (cc e)

rest_none : (x rest : Option Tick) → earlier x rest ≡ None → rest ≡ None
rest_none None rest e = e
rest_none (Some a) None e = refl
rest_none (Some a) (Some b) e = absurd (cc e)

least_set : (d i : ℕ) (ds : List (Option Tick)) → least_deadline ds ≡ None → i < length ds → least_deadline (slice_set ds i (Some d)) ≡ Some d
least_set d i [] none lt = absurd (omega (arith, lt))
least_set d zero (x ∷ ds) none lt = ap (earlier (Some d)) (rest_none x (least_deadline ds) none)
least_set d (suc i) (x ∷ ds) none lt =
    ap (λ o. earlier o (least_deadline (slice_set ds i (Some d)))) (first_none x (least_deadline ds) none) ∙ least_set d i ds (rest_none x (least_deadline ds) none) (omega (arith, lt))

only_least : (t d : ℕ) (ds : List (Option Tick)) → least_deadline ds ≡ None → 0 < t → t ≤ length ds → least_deadline (pool_set ds t (Some d)) ≡ Some d
only_least zero d ds none pos le = absurd (omega (arith, pos))
only_least (suc i) d ds none pos le = least_set d i ds none (omega (arith, le))

pub only_kept : (first n t d : ℕ) (xs ys : List Pair) → least_deadline (deadlines_from first n xs) ≡ None → 0 < t → t ≤ n → deadlines_from first n ys ≡ pool_set (deadlines_from first n xs) t (Some d) → Some d ≡ least_deadline (deadlines_from first n ys)
only_kept first n t d xs ys none pos le own = sym (ap least_deadline own ∙ only_least t d (deadlines_from first n xs) none pos (omega (arith, le, length-deadlines_from first n xs)))

-- ---- nothing is made again where nothing changed

pub same_least : (p : ℕ) (ss : List PartitionSlots) (xs : List Pair) → AreLeast xs ss → ss ≡ with_least p xs ss
same_least p [] xs least = refl
same_least zero (s ∷ ss) xs least = ap (λ (o : Option Tick). record s { next = o } ∷ ss) least.0
same_least (suc p) (s ∷ ss) xs least = ap (λ (rest : List PartitionSlots). s ∷ rest) (same_least p ss xs least.1)
