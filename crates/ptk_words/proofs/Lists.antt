-- Lists: numbers of which none is twice, who is in, and the choice of the first of greatest rank; lists that are equal, what holds of each element, the first that passes a test, and items written over others.
use Rattle.std.proofs.Common.{◌≡◌, ℕ, ◌<◌, ◌≤◌, max, Bool, true, false, not, cond, List, [], ◌∷◌, ◌++◌, length, fold, refl, sym, ◌∙◌, ap, arith, ◌⊎◌, inl, inr, zero, suc, ◌+◌, ◌-◌, min, get_or, take, drop, subst, ap₂, add-one, length-append, length-take, length-drop}
use Rattle.std.specs.Prelude.{◌≢◌, Option, Some, None, find, filter, position, nat_eq, ◌==◌, slice_get, unwrap_or, nat_lt}
use Rattle.std.specs.List.{list_any, position_or_len, IsDistinct, AllByRecursion}
use Rattle.std.specs.Cmp.{nat_eq_equiv}
use Rattle.std.proofs.lemmas.Bool.{cases_eq, cases_lt, eqb-true, eq-eqb, ne_eqb, or_cases, or_from, or_left, or_right, or_parts, false≢true, lt-ltb, ltb-false}
use Rattle.std.proofs.lemmas.List.Folds.{list_any-append}
use Rattle.std.proofs.lemmas.List.Sums.{position_or_len_is}
use Rattle.std.proofs.lemmas.Map.Keys.{IsDistinct-head, IsDistinct-tail, IsDistinct-cons, IsDistinct-push}
use Rattle.std.proofs.lemmas.Map.Views.{any-filter_same}
use Rattle.std.proofs.Math.Seq.{get_or-append_seam, take-append_seam}
use Rattle.std.proofs.lemmas.List.{get_or_append_left}
use Rattle.std.proofs.lemmas.Option.{slice_get_past}
use Rattle.ptk_words.specs.Pools.{without, greatest, first_of_greatest, is_in}
use Rattle.ptk_words.specs.Words.{with_bytes}

-- ---- who is in

pub in_head : (t u : ℕ) (ts : List ℕ) → is_in u (t ∷ ts) ≡ true → (u ≡ t) ⊎ (is_in u ts ≡ true)
in_head t u ts e = elim (or_cases (nat_eq u t) (is_in u ts) e) [
  | inl own ↦ inl (eqb-true u t own)
  | inr rest ↦ inr rest
]

pub in_push : (t u : ℕ) (ts : List ℕ) → is_in u (ts ++ t ∷ []) ≡ true → (u ≡ t) ⊎ (is_in u ts ≡ true)
in_push t u ts e = elim (or_cases (is_in u ts) (is_in u (t ∷ [])) (sym (list_any-append (nat_eq u) ts (t ∷ [])) ∙ e)) [
  | inl rest ↦ inr rest
  | inr own ↦ elim (in_head t u [] own) [ inl same ↦ inl same | inr none ↦ absurd (false≢true none) ]
]

pub out_head : (t u : ℕ) (ts : List ℕ) → u ≢ t → is_in u ts ≡ false → is_in u (t ∷ ts) ≡ false
out_head t u ts ne out = or_from (nat_eq u t) (is_in u ts) (ne_eqb u t ne) out

pub out_push : (t u : ℕ) (ts : List ℕ) → u ≢ t → is_in u ts ≡ false → is_in u (ts ++ t ∷ []) ≡ false
out_push t u ts ne out = list_any-append (nat_eq u) ts (t ∷ []) ∙ or_from (is_in u ts) (is_in u (t ∷ [])) out (out_head t u [] ne refl)

pub in_here : (t : ℕ) (ts : List ℕ) → is_in t (t ∷ ts) ≡ true
in_here t ts = or_left (nat_eq t t) (is_in t ts) (eq-eqb t t refl)

pub own_push : (t : ℕ) (ts : List ℕ) → is_in t (ts ++ t ∷ []) ≡ true
own_push t ts = list_any-append (nat_eq t) ts (t ∷ []) ∙ or_right (is_in t ts) (is_in t (t ∷ [])) (in_here t [])

pub still_push : (t u : ℕ) (ts : List ℕ) → is_in u ts ≡ true → is_in u (ts ++ t ∷ []) ≡ true
still_push t u ts e = list_any-append (nat_eq u) ts (t ∷ []) ∙ or_left (is_in u ts) (is_in u (t ∷ [])) e

not_same : (u t k : ℕ) → u ≢ t → nat_eq u k ≡ true → not (k == t) ≡ true
not_same u t k ne e = ap not (ne_eqb k t (λ same. ne (eqb-true u k e ∙ same)))

same_out : (t k : ℕ) → nat_eq t k ≡ true → not (k == t) ≡ false
same_out t k e = ap not (eq-eqb k t (sym (eqb-true t k e)))

pub without_other : (t u : ℕ) (ts : List ℕ) → u ≢ t → is_in u (without t ts) ≡ is_in u ts
without_other t u ts ne = any-filter_same (nat_eq u) (λ j. not (j == t)) true (λ k e. not_same u t k ne e) ts

pub without_own : (t : ℕ) (ts : List ℕ) → is_in t (without t ts) ≡ false
without_own t ts = any-filter_same (nat_eq t) (λ j. not (j == t)) false (λ k e. same_out t k e) ts

-- one that is still in was in, and is another
pub in_without : (t u : ℕ) (ts : List ℕ) → is_in u (without t ts) ≡ true → (u ≢ t) × (is_in u ts ≡ true)
in_without t u ts e = elim (cases_eq u t) [
  | inl same ↦ absurd (false≢true (sym (without_own t ts) ∙ ap (λ v. is_in v (without t ts)) (sym same) ∙ e))
  | inr ne ↦ (ne, sym (without_other t u ts ne) ∙ e)
]

within_at : (x : ℕ) (ts rest : List ℕ) (b : Bool) → length rest ≤ length ts → length (cond b (x ∷ rest) rest) ≤ length (x ∷ ts)
within_at x ts rest true le = omega (arith, le)
within_at x ts rest false le = omega (arith, le)

without_within : (t : ℕ) (ts : List ℕ) → length (without t ts) ≤ length ts
without_within t [] = omega arith
without_within t (x ∷ ts) = within_at x ts (without t ts) (not (x == t)) (without_within t ts)

-- without one that was in it the list is shorter
pub without_shorter : (t : ℕ) (ts : List ℕ) → is_in t ts ≡ true → length (without t ts) < length ts
without_shorter t [] here = absurd (false≢true here)
without_shorter t (x ∷ ts) here = elim (cases_eq x t) [
  | inl same ↦
      (let gone : without t (x ∷ ts) ≡ without t ts = ap (λ b. cond b (x ∷ without t ts) (without t ts)) (ap not (eq-eqb x t same)) in
      let le : length (without t ts) ≤ length ts = without_within t ts in
      rw gone (omega (arith, le)))
  | inr ne ↦
      (let kept : without t (x ∷ ts) ≡ x ∷ without t ts = ap (λ b. cond b (x ∷ without t ts) (without t ts)) (ap not (ne_eqb x t ne)) in
      let rest : is_in t ts ≡ true = elim (in_head x t ts here) [ inl same ↦ absurd (ne (sym same)) | inr rest ↦ rest ] in
      let lt : length (without t ts) < length ts = without_shorter t ts rest in
      rw kept (omega (arith, lt)))
]

-- who is in is none of those who are out
pub out_of : (q k : ℕ) (ks : List ℕ) → is_in k ks ≡ false → is_in q ks ≡ true → q ≢ k
out_of q k ks out inside = λ e. (let same : is_in k ks ≡ true = rw (← e) inside in absurd (cc))

-- ---- none twice

pub none_distinct : IsDistinct nat_eq []
unfolding IsDistinct
none_distinct = tt

pub apart_from_out : (t : ℕ) (ts : List ℕ) → is_in t ts ≡ false → AllByRecursion (λ y. nat_eq t y ≡ false) ts
apart_from_out t [] out = tt
apart_from_out t (x ∷ ts) out = let parts = or_parts (nat_eq t x) (is_in t ts) out in (parts.0, apart_from_out t ts parts.1)

out_from_apart : (t : ℕ) (ts : List ℕ) → AllByRecursion (λ y. nat_eq t y ≡ false) ts → is_in t ts ≡ false
out_from_apart t [] all = refl
out_from_apart t (x ∷ ts) all = or_from (nat_eq t x) (is_in t ts) all.0 (out_from_apart t ts all.1)

pub head_out : (t : ℕ) (ts : List ℕ) → IsDistinct nat_eq (t ∷ ts) → is_in t ts ≡ false
head_out t ts h = out_from_apart t ts (IsDistinct-head nat_eq t ts h)

pub distinct_head : (t : ℕ) (ts : List ℕ) → IsDistinct nat_eq ts → is_in t ts ≡ false → IsDistinct nat_eq (t ∷ ts)
distinct_head t ts h out = IsDistinct-cons nat_eq t ts (apart_from_out t ts out) h

pub distinct_push : (t : ℕ) (ts : List ℕ) → IsDistinct nat_eq ts → is_in t ts ≡ false → IsDistinct nat_eq (ts ++ t ∷ [])
distinct_push t ts h out = IsDistinct-push nat_eq_equiv ts t h out

-- a filter takes none in
any-filter_out_at : (test p : ℕ → Bool) (x : ℕ) (ts : List ℕ) (b : Bool) → test x ≡ false → list_any test ts ≡ false → list_any test (cond b (x ∷ ts) ts) ≡ false
any-filter_out_at test p x ts true first rest = or_from (test x) (list_any test ts) first rest
any-filter_out_at test p x ts false first rest = rest

pub any-filter_out : (test p : ℕ → Bool) (ts : List ℕ) → list_any test ts ≡ false → list_any test (filter p ts) ≡ false
any-filter_out test p [] out = refl
any-filter_out test p (x ∷ ts) out =
    let parts = or_parts (test x) (list_any test ts) out in
    any-filter_out_at test p x (filter p ts) (p x) parts.0 (any-filter_out test p ts parts.1)

distinct-filter_at : (x : ℕ) (ts : List ℕ) (b : Bool) → IsDistinct nat_eq ts → is_in x ts ≡ false → IsDistinct nat_eq (cond b (x ∷ ts) ts)
distinct-filter_at x ts true h out = distinct_head x ts h out
distinct-filter_at x ts false h out = h

pub distinct-filter : (p : ℕ → Bool) (ts : List ℕ) → IsDistinct nat_eq ts → IsDistinct nat_eq (filter p ts)
distinct-filter p [] h = h
distinct-filter p (x ∷ ts) h =
    distinct-filter_at x (filter p ts) (p x) (distinct-filter p ts (IsDistinct-tail nat_eq x ts h)) (any-filter_out (nat_eq x) p ts (head_out x ts h))

pub distinct_without : (t : ℕ) (ts : List ℕ) → IsDistinct nat_eq ts → IsDistinct nat_eq (without t ts)
distinct_without t ts h = distinct-filter (λ j. not (j == t)) ts h

-- ---- the choice

found_at : (p : ℕ → Bool) (x t : ℕ) (ts : List ℕ) (b : Bool) → cond b (Some x) (find p ts) ≡ Some t → (find p ts ≡ Some t → is_in t ts ≡ true) → is_in t (x ∷ ts) ≡ true
found_at p x t ts true e more = let same : x ≡ t = cc in or_left (nat_eq t x) (is_in t ts) (eq-eqb t x (sym same))
found_at p x t ts false e more = or_right (nat_eq t x) (is_in t ts) (more e)

-- what is found is in the list
pub found_in : (p : ℕ → Bool) (t : ℕ) (ts : List ℕ) → find p ts ≡ Some t → is_in t ts ≡ true
found_in p t [] e = absurd (let no : ⊥ = cc in no)
found_in p t (x ∷ ts) e = found_at p x t ts (p x) e (found_in p t ts)

-- so is the one chosen
pub first_in : (rank : ℕ → ℕ) (t : ℕ) (ts : List ℕ) → first_of_greatest rank ts ≡ Some t → is_in t ts ≡ true
first_in rank t ts e = found_in (λ k. rank k == greatest rank ts) t ts e

none_at : (b : Bool) (k : ℕ) (rest : Option ℕ) → cond b (Some k) rest ≡ None → (b ≡ false) × (rest ≡ None)
none_at true k rest e = absurd (let no : ⊥ = cc in no)
none_at false k rest e = (refl, e)

find_none : (p : ℕ → Bool) (j : ℕ) (ks : List ℕ) → find p ks ≡ None → is_in j ks ≡ true → p j ≡ false
find_none p j [] e here = absurd (false≢true here)
find_none p j (k ∷ ks) e here =
    let parts = none_at (p k) k (find p ks) e in
    elim (in_head k j ks here) [
      | inl same ↦ ap p same ∙ parts.0
      | inr rest ↦ find_none p j ks parts.1 rest
    ]

-- the greatest rank is one of the list's, or what it began with
reached : (rank : ℕ → ℕ) (a : ℕ) (ks : List ℕ) → (fold (λ most k. max most (rank k)) a ks ≡ a) ⊎ ((j : ℕ) × (is_in j ks ≡ true) × (rank j ≡ fold (λ most k. max most (rank k)) a ks))
reached rank a [] = inl refl
reached rank a (k ∷ ks) = elim (reached rank (max a (rank k)) ks) [
  | inl same ↦ elim (cases_lt a (rank k)) [
    | inl lt ↦ inr (k, in_here k ks, omega (arith, same, lt))
    | inr le ↦ inl (omega (arith, same, le))
  ]
  | inr (j, here, e) ↦ inr (j, or_right (nat_eq j k) (is_in j ks) here, e)
]

greatest_reached : (rank : ℕ → ℕ) (k : ℕ) (ks : List ℕ) → (j : ℕ) × (is_in j (k ∷ ks) ≡ true) × (rank j ≡ greatest rank (k ∷ ks))
greatest_reached rank k ks = elim (reached rank (max 0 (rank k)) ks) [
  | inl same ↦ (k, in_here k ks, omega (arith, same))
  | inr (j, here, e) ↦ (j, or_right (nat_eq j k) (is_in j ks) here, e)
]

-- of a list that has one, one is chosen
pub first_none : (rank : ℕ → ℕ) (ts : List ℕ) → first_of_greatest rank ts ≡ None → ts ≡ []
first_none rank [] e = refl
first_none rank (k ∷ ks) e =
    let most = greatest_reached rank k ks in
    let out : (rank most.0 == greatest rank (k ∷ ks)) ≡ false = find_none (λ j. rank j == greatest rank (k ∷ ks)) most.0 (k ∷ ks) e most.1 in
    absurd (false≢true (sym out ∙ eq-eqb (rank most.0) (greatest rank (k ∷ ks)) most.2))

-- ---- lists that end, or have no element

pub empty_from_length : (ts : List ℕ) → nat_lt 0 (length ts) ≡ false → ts ≡ []
empty_from_length [] e = refl
empty_from_length (t ∷ ts) e = let le : length (t ∷ ts) ≤ 0 = ltb-false 0 (length (t ∷ ts)) e in absurd (omega (arith, le))

pub empty_from_no_first : {A : Type 0} (xs : List A) → slice_get xs 0 ≡ None → xs ≡ []
empty_from_no_first [] e = refl
empty_from_no_first (x ∷ xs) e = absurd (let no : ⊥ = cc in no)

pub drop-at : {A : Type 0} (xs : List A) (i : ℕ) (x : A) → i < length xs → x ≡ get_or xs i x → drop i xs ≡ x ∷ drop (i + 1) xs
drop-at [] i x within is = absurd (omega arith)
drop-at (y ∷ ys) zero x within is = rw (← is)
drop-at (y ∷ ys) (suc i) x within is = rw (add-one (suc i)) (rw (add-one i) at (drop-at ys i x (omega arith) is))

-- ---- lists that have the same elements at each place

same_everywhere : {X : Type 0} (xs ys : List X) → ((k : ℕ) → slice_get xs k ≡ slice_get ys k) → xs ≡ ys
same_everywhere [] [] same = refl
same_everywhere [] (y ∷ ys) same = let bad : None ≡ Some y = same zero in cc
same_everywhere (x ∷ xs) [] same = let bad : Some x ≡ None = same zero in cc
same_everywhere (x ∷ xs) (y ∷ ys) same =
    let first : x ≡ y = ap (λ o. unwrap_or o x) (same zero) in
    ap₂ (λ a rest. a ∷ rest) first (same_everywhere xs ys (λ k. same (suc k)))

-- lists no longer than n that have the same elements at each place below n are the same
pub same_below : {X : Type 0} (xs ys : List X) (n : ℕ) → length xs ≤ n → length ys ≤ n
    → ((k : ℕ) → k < n → slice_get xs k ≡ slice_get ys k) → xs ≡ ys
same_below xs ys n short_xs short_ys same = same_everywhere xs ys (λ k. by k (cases_lt k n))
  where
    by : (k : ℕ) → (k < n) ⊎ (n ≤ k) → slice_get xs k ≡ slice_get ys k
    by k (inl below) = same k below
    by k (inr past) = slice_get_past xs k (omega (arith, short_xs, past)) ∙ sym (slice_get_past ys k (omega (arith, short_ys, past)))

-- ---- what holds of each element

-- each element is so
pub record AreEach {A : Type 0} (P : ℕ → A → Type 0) (xs : List A) : Type 0 where
  pub each : (place : ℕ) (default : A) → place < length xs → P place (get_or xs place default)

-- and one more
pub each_more : {A : Type 0} (P : ℕ → A → Type 0) (xs : List A) (x : A) → AreEach P xs → P (length xs) x → AreEach P (xs ++ x ∷ [])
each_more {A = A} P xs x are here = record { each = each }
  where
    each : (place : ℕ) (default : A) → place < length (xs ++ x ∷ []) → P place (get_or (xs ++ x ∷ []) place default)
    each place default lt = by (cases_lt place (length xs))
      where
        by : (place < length xs) ⊎ (length xs ≤ place) → P place (get_or (xs ++ x ∷ []) place default)
        by (inl sooner) = subst (P place) (sym (get_or_append_left xs (x ∷ []) default place sooner)) (are.each place default sooner)
        by (inr later) =
            let at : length xs ≡ place = omega (arith, lt, length-append xs (x ∷ []), later) in
            subst (λ (k : ℕ). P k (get_or (xs ++ x ∷ []) k default)) at (subst (P (length xs)) (sym (get_or-append_seam xs x [] default)) here)

-- ---- the first that passes a test

pub position-at : {A : Type 0} (p : A → Bool) (xs : List A) (i : ℕ) (d : A) → i < length xs → ((k : ℕ) → k < i → p (get_or xs k d) ≡ false) → p (get_or xs i d) ≡ true → position p xs ≡ Some i
position-at p xs i d within before here =
    let at : position_or_len p xs ≡ i = position_or_len_is p xs i d (omega (arith, within)) before (λ _. here) in
    ap (λ (k : ℕ). cond (nat_lt k (length xs)) (Some k) None) at ∙ ap (λ (b : Bool). cond b (Some i) None) (lt-ltb i (length xs) within)

-- ---- what is written over other items

-- what a slice of a vector's items is once it is written back
pub written_back : {A : Type 0} (new items : List A) (n : ℕ) → n ≡ length new → take n (new ++ drop (length new) items) ≡ new
written_back new items n all = ap (λ (k : ℕ). take k (new ++ drop (length new) items)) all ∙ take-append_seam new (drop (length new) items)

-- ---- bytes written into a memory

pub length-with_bytes : (memory bytes : List ℕ) (a : ℕ) → a + length bytes ≤ length memory → length (with_bytes memory a bytes) ≡ length memory
length-with_bytes memory bytes a h =
    let whole : length (with_bytes memory a bytes) ≡ length (take a memory ++ bytes) + length (drop (a + length bytes) memory) = length-append (take a memory ++ bytes) (drop (a + length bytes) memory) in
    let front : length (take a memory ++ bytes) ≡ length (take a memory) + length bytes = length-append (take a memory) bytes in
    let taken : length (take a memory) ≡ min a (length memory) = length-take a memory in
    let rest : length (drop (a + length bytes) memory) ≡ length memory - (a + length bytes) = length-drop (a + length bytes) memory in
    omega (arith, whole, front, taken, rest, h)
