-- A list of threads after a push or a removal, and the room that is left.
use Rattle.std.proofs.Common.{◌≡◌, ℕ, ◌<◌, ◌≤◌, List, [], ◌∷◌, ◌++◌, length, Bool, true, false, cond, not, arith, inl, inr}
use Rattle.std.specs.Prelude.{nat_eq, filter, ◌==◌}
use Rattle.std.specs.List.{IsDistinct}
use Rattle.std.specs.Cmp.{nat_eq_equiv}
use Rattle.std.proofs.lemmas.Bool.{or_left, or_right, or_cases, cases_Bool}
use Rattle.std.proofs.lemmas.Map.Keys.{IsDistinct-cons, IsDistinct-push}
use Rattle.std.proofs.lemmas.Map.Steps.{length-le_from_distinct_below}
use Rattle.ptk_words.specs.Pools.{without, is_in}
use Rattle.ptk_words.proofs.Lists.{in_push, distinct-filter, none_distinct, apart_from_out, in_head}
use Rattle.ptk_words.specs.Lists.{IsLine}

-- a number that is not in the list, put first
pub line_front : (k : ℕ) (ks : List ℕ) → 0 < k → k ≤ 32 → is_in k ks ≡ false → IsLine ks → IsLine (k ∷ ks)
line_front k ks pos small out line = record {
  distinct = IsDistinct-cons nat_eq k ks (apart_from_out k ks out) line.distinct;
  numbers = λ q h. elim (in_head k q ks h) as (λ _. (0 < q) × (q ≤ 32)) [ inl e ↦ (omega arith, omega arith) | inr r ↦ line.numbers q r ];
}

-- a number that is not in the list, put last
pub line_push : (k : ℕ) (ks : List ℕ) → 0 < k → k ≤ 32 → is_in k ks ≡ false → IsLine ks → IsLine (ks ++ k ∷ [])
line_push k ks pos small out line = record {
  distinct = IsDistinct-push nat_eq_equiv ks k line.distinct out;
  numbers = λ q h. elim (in_push k q ks h) as (λ _. (0 < q) × (q ≤ 32)) [ inl e ↦ (omega arith, omega arith) | inr r ↦ line.numbers q r ];
}

-- ---- a removal

in-cond : (q x : ℕ) (b : Bool) (ys xs : List ℕ) → (is_in q ys ≡ true → is_in q xs ≡ true) → is_in q (cond b (x ∷ ys) ys) ≡ true → is_in q (x ∷ xs) ≡ true
in-cond q x true ys xs later h =
    elim (or_cases (nat_eq q x) (is_in q ys) h) as (λ _. is_in q (x ∷ xs) ≡ true) [ inl e ↦ or_left (nat_eq q x) (is_in q xs) e | inr r ↦ or_right (nat_eq q x) (is_in q xs) (later r) ]
in-cond q x false ys xs later h = or_right (nat_eq q x) (is_in q xs) (later h)

in-filter : (q : ℕ) (test : ℕ → Bool) (xs : List ℕ) → is_in q (filter test xs) ≡ true → is_in q xs ≡ true
in-filter q test [] h = h
in-filter q test (x ∷ xs) h = in-cond q x (test x) (filter test xs) xs (in-filter q test xs) h

pub line_without : (k : ℕ) (ks : List ℕ) → IsLine ks → IsLine (without k ks)
line_without k ks line = record {
  distinct = distinct-filter (λ j. not (j == k)) ks line.distinct;
  numbers = λ q h. line.numbers q (in-filter q (λ j. not (j == k)) ks h);
}

-- ---- room

zero_out : (ks : List ℕ) → IsLine ks → is_in 0 ks ≡ false
zero_out ks line =
    elim (cases_Bool (is_in 0 ks)) as (λ _. is_in 0 ks ≡ false) [ inl t ↦ (let none : 0 < 0 = (line.numbers 0 t).0 in absurd (omega arith)) | inr f ↦ f ]

-- 32 numbers are all that there are
few_distinct : (ks : List ℕ) → IsLine ks → length ks ≤ 32
few_distinct ks line =
    let distinct : IsDistinct nat_eq (0 ∷ ks) = IsDistinct-cons nat_eq 0 ks (apart_from_out 0 ks (zero_out ks line)) line.distinct in
    let below : (q : ℕ) → is_in q (0 ∷ ks) ≡ true → q < 33 =
    λ q h. elim (in_head 0 q ks h) as (λ _. q < 33) [ inl e ↦ omega arith | inr r ↦ (let small : q ≤ 32 = (line.numbers q r).1 in omega arith) ] in
    let all : length (0 ∷ ks) ≤ 33 = length-le_from_distinct_below (0 ∷ ks) 33 distinct below in
    omega arith

-- so there is room for one that is not in the list
pub line_room : (k : ℕ) (ks : List ℕ) → 0 < k → k ≤ 32 → is_in k ks ≡ false → IsLine ks → length ks < 32
line_room k ks pos small out line = let all : length (k ∷ ks) ≤ 32 = few_distinct (k ∷ ks) (line_front k ks pos small out line) in omega arith

pub line_none : IsLine []
line_none = record { distinct = none_distinct; numbers = λ q h. (let no : false ≡ true = h in absurd (cc)) }

pub ruleset lines = (line_front, line_push, line_without, line_room, line_none)
