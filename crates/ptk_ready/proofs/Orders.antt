-- Lists in order of stamps, of which there is one for each set of numbers.
use Rattle.std.proofs.Common.{◌≡◌, ◌≢◌, ℕ, List, [], ◌∷◌, Bool, true, false, ◌||◌, ◌&&◌, refl, sym, ◌∙◌, ap, subst, arith, inl, inr}
use Rattle.std.specs.Prelude.{ℤ, ◌<ℤ◌, int_lt, nat_eq, filter}
use Rattle.std.specs.List.{IsDistinct}
use Rattle.std.proofs.lemmas.Bool.{eqb-true, cases_Bool, and_parts}
use Rattle.std.proofs.lemmas.Int.{ints}
use Rattle.std.proofs.lemmas.Map.Keys.{IsDistinct-tail}
use Rattle.ptk_words.specs.Pools.{is_in}
use Rattle.ptk_words.proofs.Lists.{in_here, head_out, in_head}
use Rattle.ptk_threads.proofs.Along.{in_later}
use Rattle.ptk_ready.specs.Orders.{placed, in_order}

-- ---- tests

-- two tests that imply each other are one
pub same_test : (a b : Bool) → (a ≡ true → b ≡ true) → (b ≡ true → a ≡ true) → a ≡ b
same_test true b f g = sym (f refl)
same_test false true f g = g refl
same_test false false f g = refl

pub no_less : (x : ℤ) → x <ℤ x → ⊥
no_less x h = omega (arith, ints)

pub less_test : (x y : ℤ) → int_lt x y ≡ true → x <ℤ y
less_test x y h = grind (arith, ints)

pub test_less : (x y : ℤ) → x <ℤ y → int_lt x y ≡ true
test_less x y h = grind (arith, ints)

other_less : (x y : ℤ) → int_lt x y ≡ false → x ≢ y → y <ℤ x
other_less x y h ne = grind (arith, ints)

-- ---- members

swap_or : (a b c : Bool) → (a || (b || c)) ≡ (b || (a || c))
swap_or true true c = refl
swap_or true false c = refl
swap_or false b c = refl

pub in_placed : (stamp : ℕ → ℤ) (q k : ℕ) (ks : List ℕ) → is_in q (placed stamp k ks) ≡ is_in q (k ∷ ks)
in_placed stamp q k [] = refl
in_placed stamp q k (j ∷ ks) = elim (cases_Bool (int_lt (stamp k) (stamp j))) as (λ _. is_in q (placed stamp k (j ∷ ks)) ≡ is_in q (k ∷ j ∷ ks)) [
  | inl does ↦ rw does refl
  | inr fails ↦ rw fails (ap (λ b. nat_eq q j || b) (in_placed stamp q k ks) ∙ swap_or (nat_eq q j) (nat_eq q k) (is_in q ks))
]

pub in_sorted : (stamp : ℕ → ℤ) (q : ℕ) (ks : List ℕ) → is_in q (in_order stamp ks) ≡ is_in q ks
in_sorted stamp q [] = refl
in_sorted stamp q (k ∷ ks) = in_placed stamp q k (in_order stamp ks) ∙ ap (λ b. nat_eq q k || b) (in_sorted stamp q ks)

none_kept : (b : Bool) → false ≡ (b && false)
none_kept true = refl
none_kept false = refl

kept_here : (a b c : Bool) → (a ≡ true → b ≡ true) → (a || (b && c)) ≡ (b && (a || c))
kept_here true b c h = rw (h refl) refl
kept_here false b c h = refl

left_here : (a b c : Bool) → (a ≡ true → b ≡ false) → (b && c) ≡ (b && (a || c))
left_here true b c h = rw (h refl) refl
left_here false b c h = refl

pub in_kept : (p : ℕ → Bool) (q : ℕ) (ks : List ℕ) → is_in q (filter p ks) ≡ (p q && is_in q ks)
in_kept p q [] = none_kept (p q)
in_kept p q (k ∷ ks) = elim (cases_Bool (p k)) as (λ _. is_in q (filter p (k ∷ ks)) ≡ (p q && is_in q (k ∷ ks))) [
  | inl does ↦ rw does (ap (λ b. nat_eq q k || b) (in_kept p q ks) ∙ kept_here (nat_eq q k) (p q) (is_in q ks) (λ e. ap p (eqb-true q k e) ∙ does))
  | inr fails ↦ rw fails (in_kept p q ks ∙ left_here (nat_eq q k) (p q) (is_in q ks) (λ e. ap p (eqb-true q k e) ∙ fails))
]

-- ---- lists in order

-- each number's stamp is less than those of all numbers after it
abbrev pub IsInOrder : (ℕ → ℤ) → List ℕ → Type 0
IsInOrder stamp [] = Unit {0}
IsInOrder stamp (k ∷ ks) = ((j : ℕ) → is_in j ks ≡ true → stamp k <ℤ stamp j) × IsInOrder stamp ks

pub order_same : (stamp after : ℕ → ℤ) (ks : List ℕ) → ((j k : ℕ) → is_in j ks ≡ true → is_in k ks ≡ true → stamp j <ℤ stamp k → after j <ℤ after k) → IsInOrder stamp ks → IsInOrder after ks
order_same stamp after [] same h = tt
order_same stamp after (k ∷ ks) same h = (
  λ j inside. same k j (in_here k ks) (in_later j k ks inside) (h.0 j inside),
  order_same stamp after ks (λ i j a b. same i j (in_later i k ks a) (in_later j k ks b)) h.1,
)

pub order_kept : (stamp : ℕ → ℤ) (p : ℕ → Bool) (ks : List ℕ) → IsInOrder stamp ks → IsInOrder stamp (filter p ks)
order_kept stamp p [] h = tt
order_kept stamp p (k ∷ ks) h = elim (cases_Bool (p k)) as (λ _. IsInOrder stamp (filter p (k ∷ ks))) [
  | inl does ↦ rw does (λ j inside. h.0 j (and_parts (p j) (is_in j ks) (sym (in_kept p j ks) ∙ inside)).1, order_kept stamp p ks h.1)
  | inr fails ↦ rw fails (order_kept stamp p ks h.1)
]

pub order_placed : (stamp : ℕ → ℤ) (k : ℕ) (ks : List ℕ) → ((j : ℕ) → is_in j ks ≡ true → stamp k ≢ stamp j) → IsInOrder stamp ks → IsInOrder stamp (placed stamp k ks)
order_placed stamp k [] ne h = (λ j inside. absurd (cc), tt)
order_placed stamp k (j ∷ ks) ne h = elim (cases_Bool (int_lt (stamp k) (stamp j))) as (λ _. IsInOrder stamp (placed stamp k (j ∷ ks))) [
  | inl does ↦ (let less : stamp k <ℤ stamp j = less_test (stamp k) (stamp j) does in
      rw does (
        λ i inside. elim (in_head j i ks inside) as (λ _. stamp k <ℤ stamp i) [ inl e ↦ rw e less | inr r ↦ (let later = h.0 i r in omega (arith, ints)) ],
        h,
      ))
  | inr fails ↦ (let less : stamp j <ℤ stamp k = other_less (stamp k) (stamp j) fails (ne j (in_here j ks)) in
      rw fails (
        λ i inside. elim (in_head k i ks (sym (in_placed stamp i k ks) ∙ inside)) as (λ _. stamp j <ℤ stamp i) [ inl e ↦ rw e less | inr r ↦ h.0 i r ],
        order_placed stamp k ks (λ i inside. ne i (in_later i j ks inside)) h.1,
      ))
]

-- distinct numbers with stamps of their own
pub order_sorted : (stamp : ℕ → ℤ) (ks : List ℕ) → IsDistinct nat_eq ks → ((j k : ℕ) → is_in j ks ≡ true → is_in k ks ≡ true → stamp j ≡ stamp k → j ≡ k) → IsInOrder stamp (in_order stamp ks)
order_sorted stamp [] d apart = tt
order_sorted stamp (k ∷ ks) d apart =
    order_placed stamp k (in_order stamp ks)
    (λ j inside e. (let there : is_in j ks ≡ true = sym (in_sorted stamp j ks) ∙ inside in
    let same : k ≡ j = apart k j (in_here k ks) (in_later j k ks there) e in
    let mine : is_in k ks ≡ true = rw same there in
    let out = head_out k ks d in absurd (cc)))
    (order_sorted stamp ks (IsDistinct-tail nat_eq k ks d) (λ i j a b. apart i j (in_later i k ks a) (in_later j k ks b)))

-- one list in order has exactly these numbers
pub same_list : (stamp : ℕ → ℤ) (xs ys : List ℕ) → IsInOrder stamp xs → IsInOrder stamp ys → ((k : ℕ) → is_in k xs ≡ true → is_in k ys ≡ true) → ((k : ℕ) → is_in k ys ≡ true → is_in k xs ≡ true) → xs ≡ ys
same_list stamp [] [] h g to from = refl
same_list stamp [] (y ∷ ys) h g to from = (let none = from y (in_here y ys) in absurd (cc))
same_list stamp (x ∷ xs) [] h g to from = (let none = to x (in_here x xs) in absurd (cc))
same_list stamp (x ∷ xs) (y ∷ ys) h g to from =
    let same : x ≡ y = elim (in_head y x ys (to x (in_here x xs))) as (λ _. x ≡ y) [
      | inl e ↦ e
      | inr r ↦ elim (in_head x y xs (from y (in_here y ys))) as (λ _. x ≡ y) [
        | inl e ↦ sym e
        | inr s ↦ (let one = g.0 x r in let other = h.0 y s in absurd (omega (arith, ints)))
      ]
    ] in
    let to_rest : (k : ℕ) → is_in k xs ≡ true → is_in k ys ≡ true = λ k inside. elim (in_head y k ys (to k (in_later k x xs inside))) as (λ _. is_in k ys ≡ true) [
      | inl e ↦ (let less : stamp x <ℤ stamp k = h.0 k inside in absurd (no_less (stamp x) (subst (λ (j : ℕ). stamp x <ℤ stamp j) (e ∙ sym same) less)))
      | inr r ↦ r
    ] in
    let from_rest : (k : ℕ) → is_in k ys ≡ true → is_in k xs ≡ true = λ k inside. elim (in_head x k xs (from k (in_later k y ys inside))) as (λ _. is_in k xs ≡ true) [
      | inl e ↦ (let less : stamp y <ℤ stamp k = g.0 k inside in absurd (no_less (stamp y) (subst (λ (j : ℕ). stamp y <ℤ stamp j) (e ∙ same) less)))
      | inr r ↦ r
    ] in
    rw same (ap (λ l. y ∷ l) (same_list stamp xs ys h.1 g.1 to_rest from_rest))

-- numbers of a list in order have stamps of their own
pub order_apart : (stamp : ℕ → ℤ) (ks : List ℕ) → IsInOrder stamp ks → (i j : ℕ) → is_in i ks ≡ true → is_in j ks ≡ true → stamp i ≡ stamp j → i ≡ j
order_apart stamp [] h i j a b e = absurd (cc)
order_apart stamp (k ∷ ks) h i j a b e = elim (in_head k i ks a) as (λ _. i ≡ j) [
  | inl first ↦ elim (in_head k j ks b) as (λ _. i ≡ j) [
    | inl second ↦ first ∙ sym second
    | inr later ↦ (let less : stamp k <ℤ stamp j = h.0 j later in let same : stamp j ≡ stamp k = sym e ∙ ap stamp first in absurd (no_less (stamp k) (subst (λ (z : ℤ). stamp k <ℤ z) same less)))
  ]
  | inr rest ↦ elim (in_head k j ks b) as (λ _. i ≡ j) [
    | inl second ↦ (let less : stamp k <ℤ stamp i = h.0 i rest in let same : stamp i ≡ stamp k = e ∙ ap stamp second in absurd (no_less (stamp k) (subst (λ (z : ℤ). stamp k <ℤ z) same less)))
    | inr later ↦ order_apart stamp ks h.1 i j rest later e
  ]
]
