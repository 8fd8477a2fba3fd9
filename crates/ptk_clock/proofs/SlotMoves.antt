-- One slot's deadline set or ended: what its partition sees of it, and what the others do.
use Rattle.std.proofs.Common.{◌≡◌, ℕ, zero, suc, ◌+◌, ◌-◌, ◌<◌, ◌≤◌, List, false, sym, ◌∙◌, ap, refl, arith, Option, Some, None, ◌⊎◌, inl, inr}
use Rattle.std.specs.Prelude.{slice_set}
use Rattle.std.proofs.lemmas.List.{set_past, set-set}
use Rattle.ptk_words.specs.Names.{Tick}
use Rattle.ptk_words.specs.Pools.{pool_set, is_in}
use Rattle.ptk_clock.specs.Pairs.{Pair, slots_of, with_pair, without_slot}
use Rattle.ptk_clock.specs.BySlot.{deadlines_from}
use Rattle.ptk_clock.specs.ByThread.{IsElsewhereSame}
use Rattle.ptk_clock.proofs.BySlot.{own_slot, deadline_at-without, deadlines_from-with, deadlines_from-with_other, deadlines_from-without, deadlines_from-without_other}
use Rattle.ptk_clock.proofs.Expiries.{length-deadlines_from, without_pair}

pub set_none : (first n t : ℕ) (xs : List Pair) → 0 < t → t ≤ n → deadlines_from first n (without_slot (first + (t - 1)) xs) ≡ pool_set (deadlines_from first n xs) t None
set_none first n zero xs pos le = absurd (omega (arith, pos))
set_none first n (suc i) xs pos le =
    let slot : first + (suc i - 1) ≡ first + i = omega arith in
    let place : first + i - first ≡ i = omega arith in
    ap (λ k. deadlines_from first n (without_slot k xs)) slot
    ∙ deadlines_from-without first n (first + i) xs (omega arith) (omega (arith, le))
    ∙ ap (λ k. slice_set (deadlines_from first n xs) k None) place

pub out_without : (s : ℕ) (xs : List Pair) → is_in s (slots_of (without_slot s xs)) ≡ false
out_without s xs = without_pair s (without_slot s xs) (deadline_at-without s xs s ∙ own_slot s None _)

pub set_some : (first n t d : ℕ) (xs : List Pair) → 0 < t → t ≤ n → deadlines_from first n (with_pair (d, first + (t - 1)) (without_slot (first + (t - 1)) xs)) ≡ pool_set (deadlines_from first n xs) t (Some d)
set_some first n zero d xs pos le = absurd (omega (arith, pos))
set_some first n (suc i) d xs pos le =
    let slot : first + (suc i - 1) ≡ first + i = omega arith in
    let place : first + i - first ≡ i = omega arith in
    ap (λ k. deadlines_from first n (with_pair (d, k) (without_slot k xs))) slot
    ∙ deadlines_from-with first n d (first + i) (without_slot (first + i) xs) (out_without (first + i) xs) (omega arith) (omega (arith, le))
    ∙ ap (λ (ds : List (Option Tick)). slice_set ds (first + i - first) (Some d)) (deadlines_from-without first n (first + i) xs (omega arith) (omega (arith, le)))
    ∙ set-set (deadlines_from first n xs) (first + i - first) None (Some d)
    ∙ ap (λ k. slice_set (deadlines_from first n xs) k (Some d)) place

pub set_no_slot : (first n t : ℕ) (o : Option Tick) (xs : List Pair) → n < t → deadlines_from first n xs ≡ pool_set (deadlines_from first n xs) t o
set_no_slot first n zero o xs lt = refl
set_no_slot first n (suc i) o xs lt = sym (set_past (deadlines_from first n xs) i o (omega (arith, lt, length-deadlines_from first n xs)))

pub away : (first n t start m : ℕ) → 0 < t → t ≤ n → (start + m ≤ first) ⊎ (first + n ≤ start) → (first + (t - 1) < start) ⊎ (start + m ≤ first + (t - 1))
away first n t start m pos le apart = elim apart [ inl before ↦ inr (omega (arith, before)) | inr behind ↦ inl (omega (arith, behind, pos, le)) ]

pub elsewhere_none : (first n t : ℕ) (xs : List Pair) → 0 < t → t ≤ n → IsElsewhereSame first n xs (without_slot (first + (t - 1)) xs)
elsewhere_none first n t xs pos le = λ start m apart. deadlines_from-without_other start m (first + (t - 1)) xs (away first n t start m pos le apart)

pub elsewhere_some : (first n t d : ℕ) (xs : List Pair) → 0 < t → t ≤ n → IsElsewhereSame first n xs (with_pair (d, first + (t - 1)) (without_slot (first + (t - 1)) xs))
elsewhere_some first n t d xs pos le = λ start m apart.
    (deadlines_from-with_other start m d (first + (t - 1)) (without_slot (first + (t - 1)) xs) (out_without (first + (t - 1)) xs) (away first n t start m pos le apart)
    ∙ elsewhere_none first n t xs pos le start m apart)

-- ---- as a queue's calls tell it

both : (t d slot place : ℕ) (xs ys zs : List Pair) → slot ≡ place → ys ≡ without_slot slot xs → zs ≡ with_pair (d, slot) ys → zs ≡ with_pair (d, place) (without_slot place xs)
both t d slot place xs ys zs at removed added = added ∙ ap (with_pair (d, slot)) removed ∙ ap (λ k. with_pair (d, k) (without_slot k xs)) at

pub some_own : (first n t d slot : ℕ) (xs ys zs : List Pair) (o : Option Tick) → 0 < t → t ≤ n → slot ≡ first + (t - 1) → ys ≡ without_slot slot xs → zs ≡ with_pair (d, slot) ys → o ≡ Some d → deadlines_from first n zs ≡ pool_set (deadlines_from first n xs) t o
some_own first n t d slot xs ys zs o pos le at removed added is =
    ap (deadlines_from first n) (both t d slot (first + (t - 1)) xs ys zs at removed added) ∙ set_some first n t d xs pos le ∙ ap (pool_set (deadlines_from first n xs) t) (sym is)

pub some_elsewhere : (first n t d slot : ℕ) (xs ys zs : List Pair) → 0 < t → t ≤ n → slot ≡ first + (t - 1) → ys ≡ without_slot slot xs → zs ≡ with_pair (d, slot) ys → IsElsewhereSame first n xs zs
some_elsewhere first n t d slot xs ys zs pos le at removed added = λ start m apart.
    (ap (deadlines_from start m) (both t d slot (first + (t - 1)) xs ys zs at removed added) ∙ elsewhere_some first n t d xs pos le start m apart)

pub none_own : (first n t slot : ℕ) (xs ys : List Pair) (o : Option Tick) → 0 < t → t ≤ n → slot ≡ first + (t - 1) → ys ≡ without_slot slot xs → o ≡ None → deadlines_from first n ys ≡ pool_set (deadlines_from first n xs) t o
none_own first n t slot xs ys o pos le at removed is =
    ap (deadlines_from first n) (removed ∙ ap (λ k. without_slot k xs) at) ∙ set_none first n t xs pos le ∙ ap (pool_set (deadlines_from first n xs) t) (sym is)

pub none_elsewhere : (first n t slot : ℕ) (xs ys : List Pair) → 0 < t → t ≤ n → slot ≡ first + (t - 1) → ys ≡ without_slot slot xs → IsElsewhereSame first n xs ys
none_elsewhere first n t slot xs ys pos le at removed = λ start m apart. (ap (deadlines_from start m) (removed ∙ ap (λ k. without_slot k xs) at) ∙ elsewhere_none first n t xs pos le start m apart)
