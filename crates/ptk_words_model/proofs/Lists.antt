-- Some element of a list, the first that passes a test, the least number.
use Rattle.std.proofs.Common.{◌≡◌, ℕ, zero, suc, ◌<◌, ◌≤◌, Bool, true, false, List, [], ◌∷◌, ◌++◌, length, get_or, map, filter, find, fold, min, Option, Some, None, Any, All, MatchOption, refl, sym, subst, arith, inl, inr, ◌⊎◌}
use Rattle.std.specs.List.{reduce, flat_map}
use Rattle.std.proofs.lemmas.Bool.{cases_Bool, cases_lt, cond-true, cond-false, both_ways}
use Rattle.std.proofs.lemmas.List.Elements.{All-nil, All-cons}

pub MatchOption-weaker : {X : Type 0} (P P' : Type 0) (Q Q' : X → Type 0) → (P → P') → ((x : X) → Q x → Q' x) → (o : Option X) → MatchOption o P Q → MatchOption o P' Q'
MatchOption-weaker P P' Q Q' f g None p = f p
MatchOption-weaker P P' Q Q' f g (Some x) q = g x q

pub Any-here : {X : Type 0} (P : X → Type 0) (x : X) (xs : List X) → P x → Any P (x ∷ xs)
Any-here P x xs p = (0, x, omega arith, refl, p)

pub Any-there : {X : Type 0} (P : X → Type 0) (x : X) (xs : List X) → Any P xs → Any P (x ∷ xs)
Any-there P x xs h = (suc h.0, h.1, omega (arith, h.2), h.3, h.4)

pub Any-nil : {X : Type 0} (P : X → Type 0) → Any P [] → ⊥
Any-nil P h = omega (arith, h.2)

pub Any-weaker : {X : Type 0} (P Q : X → Type 0) → ((x : X) → P x → Q x) → (xs : List X) → Any P xs → Any Q xs
Any-weaker P Q f xs h = (h.0, h.1, h.2, h.3, f h.1 h.4)

-- what every element is, the one that is so is too
pub Any-all : {X : Type 0} (P Q : X → Type 0) (xs : List X) → All Q xs → Any P xs → Any (λ x. P x × Q x) xs
Any-all P Q xs all h = (h.0, h.1, h.2, h.3, (h.4, subst Q h.3 (all h.0 h.1 h.2)))

-- the first element that passes is one, and where there is none each fails
pub find-cases : {X : Type 0} (test : X → Bool) (xs : List X) → MatchOption (find test xs) (All (λ x. test x ≡ false) xs) (λ x. Any (λ y. (y ≡ x) × (test y ≡ true)) xs)
find-cases test [] = All-nil (λ x. test x ≡ false)
find-cases {X} test (x ∷ xs) =
    let M = λ (o : Option X). MatchOption o (All (λ y. test y ≡ false) (x ∷ xs)) (λ z. Any (λ y. (y ≡ z) × (test y ≡ true)) (x ∷ xs)) in
    elim (cases_Bool (test x)) [
      | inl passes ↦ subst M (sym (cond-true (test x) (Some x) (find test xs) passes)) (Any-here (λ y. (y ≡ x) × (test y ≡ true)) x xs (refl, passes))
      | inr fails ↦ subst M (sym (cond-false (test x) (Some x) (find test xs) fails))
          (MatchOption-weaker (All (λ y. test y ≡ false) xs) (All (λ y. test y ≡ false) (x ∷ xs)) (λ z. Any (λ y. (y ≡ z) × (test y ≡ true)) xs) (λ z. Any (λ y. (y ≡ z) × (test y ≡ true)) (x ∷ xs))
          (λ all. All-cons (λ y. test y ≡ false) x xs fails all) (λ z h. Any-there (λ y. (y ≡ z) × (test y ≡ true)) x xs h) (find test xs) (find-cases test xs))
    ]

at_cases : {X : Type 0} (P : X → Type 0) (x : X) (xs : List X) (k : ℕ) (y : X) → k < length (x ∷ xs) → get_or (x ∷ xs) k y ≡ y → P y → P x ⊎ Any P xs
at_cases P x xs zero y within is p = inl (subst P (sym is) p)
at_cases P x xs (suc k) y within is p = inr (k, y, omega (arith, within), is, p)

pub Any-cases : {X : Type 0} (P : X → Type 0) (x : X) (xs : List X) → Any P (x ∷ xs) → P x ⊎ Any P xs
Any-cases P x xs h = at_cases P x xs h.0 h.1 h.2 h.3 h.4

-- what a filter keeps
pub Any-filter : {X : Type 0} (test : X → Bool) (P : X → Type 0) (xs : List X) → Any (λ x. (test x ≡ true) × P x) xs → Any P (filter test xs)
Any-filter test P [] h = absurd (Any-nil (λ x. (test x ≡ true) × P x) h)
Any-filter {X} test P (x ∷ xs) h =
    let M = λ (l : List X). Any P l in
    elim (cases_Bool (test x)) [
      | inl passes ↦ subst M (sym (cond-true (test x) (x ∷ filter test xs) (filter test xs) passes))
          (elim (Any-cases (λ y. (test y ≡ true) × P y) x xs h) [
            | inl here ↦ Any-here P x (filter test xs) here.1
            | inr later ↦ Any-there P x (filter test xs) (Any-filter test P xs later)
          ])
      | inr fails ↦ subst M (sym (cond-false (test x) (x ∷ filter test xs) (filter test xs) fails))
          (elim (Any-cases (λ y. (test y ≡ true) × P y) x xs h) [
            | inl here ↦ absurd (both_ways (test x) fails here.0)
            | inr later ↦ Any-filter test P xs later
          ])
    ]

pub Any-filtered : {X : Type 0} (test : X → Bool) (P : X → Type 0) (xs : List X) → Any P (filter test xs) → Any (λ x. (test x ≡ true) × P x) xs
Any-filtered test P [] h = absurd (Any-nil P h)
Any-filtered {X} test P (x ∷ xs) h =
    let M = λ (l : List X). Any P l in
    elim (cases_Bool (test x)) [
      | inl passes ↦
          (elim (Any-cases P x (filter test xs) (subst M (cond-true (test x) (x ∷ filter test xs) (filter test xs) passes) h)) [
            | inl here ↦ Any-here (λ y. (test y ≡ true) × P y) x xs (passes, here)
            | inr later ↦ Any-there (λ y. (test y ≡ true) × P y) x xs (Any-filtered test P xs later)
          ])
      | inr fails ↦ Any-there (λ y. (test y ≡ true) × P y) x xs (Any-filtered test P xs (subst M (cond-false (test x) (x ∷ filter test xs) (filter test xs) fails) h))
    ]

-- ---- what a map and a flat map have
pub Any-mapped : {X Y : Type 0} (f : X → Y) (P : Y → Type 0) (xs : List X) → Any P (map f xs) → Any (λ x. P (f x)) xs
Any-mapped f P [] h = absurd (Any-nil P h)
Any-mapped f P (x ∷ xs) h =
    elim (Any-cases P (f x) (map f xs) h) [
      | inl here ↦ Any-here (λ y. P (f y)) x xs here
      | inr later ↦ Any-there (λ y. P (f y)) x xs (Any-mapped f P xs later)
    ]

pub Any-map : {X Y : Type 0} (f : X → Y) (P : Y → Type 0) (xs : List X) → Any (λ x. P (f x)) xs → Any P (map f xs)
Any-map f P [] h = absurd (Any-nil (λ x. P (f x)) h)
Any-map f P (x ∷ xs) h =
    elim (Any-cases (λ y. P (f y)) x xs h) [
      | inl here ↦ Any-here P (f x) (map f xs) here
      | inr later ↦ Any-there P (f x) (map f xs) (Any-map f P xs later)
    ]

pub Any-left : {X : Type 0} (P : X → Type 0) (xs ys : List X) → Any P xs → Any P (xs ++ ys)
Any-left P [] ys h = absurd (Any-nil P h)
Any-left P (x ∷ xs) ys h =
    elim (Any-cases P x xs h) [
      | inl here ↦ Any-here P x (xs ++ ys) here
      | inr later ↦ Any-there P x (xs ++ ys) (Any-left P xs ys later)
    ]

pub Any-right : {X : Type 0} (P : X → Type 0) (xs ys : List X) → Any P ys → Any P (xs ++ ys)
Any-right P [] ys h = h
Any-right P (x ∷ xs) ys h = Any-there P x (xs ++ ys) (Any-right P xs ys h)

pub Any-append : {X : Type 0} (P : X → Type 0) (xs ys : List X) → Any P (xs ++ ys) → Any P xs ⊎ Any P ys
Any-append P [] ys h = inr h
Any-append P (x ∷ xs) ys h =
    elim (Any-cases P x (xs ++ ys) h) [
      | inl here ↦ inl (Any-here P x xs here)
      | inr later ↦ elim (Any-append P xs ys later) [
        | inl first ↦ inl (Any-there P x xs first)
        | inr second ↦ inr second
      ]
    ]

pub Any-flat : {X Y : Type 0} (f : X → List Y) (P : Y → Type 0) (xs : List X) → Any (λ x. Any P (f x)) xs → Any P (flat_map f xs)
Any-flat f P [] h = absurd (Any-nil (λ x. Any P (f x)) h)
Any-flat f P (x ∷ xs) h =
    elim (Any-cases (λ y. Any P (f y)) x xs h) [
      | inl here ↦ Any-left P (f x) (flat_map f xs) here
      | inr later ↦ Any-right P (f x) (flat_map f xs) (Any-flat f P xs later)
    ]

pub Any-flattened : {X Y : Type 0} (f : X → List Y) (P : Y → Type 0) (xs : List X) → Any P (flat_map f xs) → Any (λ x. Any P (f x)) xs
Any-flattened f P [] h = absurd (Any-nil P h)
Any-flattened f P (x ∷ xs) h =
    elim (Any-append P (f x) (flat_map f xs) h) [
      | inl here ↦ Any-here (λ y. Any P (f y)) x xs here
      | inr later ↦ Any-there (λ y. Any P (f y)) x xs (Any-flattened f P xs later)
    ]

-- the least of numbers
fold-min : (a : ℕ) (ns : List ℕ) → ((fold min a ns ≡ a) ⊎ Any (λ n. n ≡ fold min a ns) ns) × (fold min a ns ≤ a) × All (λ n. fold min a ns ≤ n) ns
fold-min a [] = (inl refl, omega arith, All-nil (λ n. a ≤ n))
fold-min a (x ∷ xs) =
    let n = fold min (min a x) xs in
    let r = fold-min (min a x) xs in
    let reached : (n ≡ a) ⊎ Any (λ y. y ≡ n) (x ∷ xs) =
    elim r.0 [
      | inl start ↦ elim (cases_lt x a) [
        | inl below ↦ inr (Any-here (λ y. y ≡ n) x xs (omega arith))
        | inr above ↦ inl (omega arith)
      ]
      | inr later ↦ inr (Any-there (λ y. y ≡ n) x xs later)
    ] in
    (reached, omega (arith, r.1), All-cons (λ y. n ≤ y) x xs (omega (arith, r.1)) r.2)

-- the least one is among them and at most every other, and there is none only where there is no number
pub reduce-min : (ns : List ℕ) → MatchOption (reduce min ns) (ns ≡ []) (λ n. Any (λ k. k ≡ n) ns × All (λ k. n ≤ k) ns)
reduce-min [] = refl
reduce-min (x ∷ xs) =
    let n = fold min x xs in
    let r = fold-min x xs in
    let reached : Any (λ y. y ≡ n) (x ∷ xs) =
    elim r.0 [
      | inl start ↦ Any-here (λ y. y ≡ n) x xs (sym start)
      | inr later ↦ Any-there (λ y. y ≡ n) x xs later
    ] in
    (reached, All-cons (λ y. n ≤ y) x xs r.1 r.2)
