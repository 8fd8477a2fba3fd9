-- Deadlines by slot after a pair came or left.
use Rattle.std.proofs.Common.{◌≡◌, ◌≢◌, ℕ, zero, suc, ◌+◌, ◌-◌, ◌<◌, ◌≤◌, List, [], ◌∷◌, Bool, true, false, cond, not, refl, sym, ◌∙◌, ap, arith, Option, Some, None, ◌⊎◌, inl, inr}
use Rattle.std.specs.Prelude.{nat_eq, ◌==◌, find, option_map}
use Rattle.std.proofs.Math.ListN.{set}
use Rattle.std.proofs.lemmas.Bool.Decides.{nat_tests}
use Rattle.std.proofs.lemmas.Bool.{or_parts}
use Rattle.ptk_words.specs.Pools.{is_in}
use Rattle.ptk_words.specs.Names.{Tick}
use Rattle.ptk_clock.specs.Pairs.{Pair, slots_of, is_before, with_pair, without_slot}
use Rattle.ptk_clock.specs.BySlot.{deadline_at, deadlines_from}

-- the first pair counts where it is the slot's
at_first : (b : Bool) (x : Pair) (o : Option Pair) → option_map (λ (pair : Pair). pair.0) (cond b (Some x) o) ≡ cond b (Some x.0) (option_map (λ (pair : Pair). pair.0) o)
at_first true x o = refl
at_first false x o = refl

pub deadline_at-cons : (x : Pair) (xs : List Pair) (q : ℕ) → deadline_at (x ∷ xs) q ≡ cond (x.1 == q) (Some x.0) (deadline_at xs q)
deadline_at-cons x xs q = at_first (x.1 == q) x (find (λ pair. pair.1 == q) xs)

-- two slots that differ are not both q
turned : (s t q : ℕ) (u v w : Option Tick) → nat_eq s t ≡ false → cond (t == q) u (cond (s == q) v w) ≡ cond (s == q) v (cond (t == q) u w)
turned s t q u v w n = grind (arith, nat_tests)

placed : (a x : Pair) (xs : List Pair) (q : ℕ) (b : Bool) → nat_eq a.1 x.1 ≡ false → deadline_at (with_pair a xs) q ≡ cond (a.1 == q) (Some a.0) (deadline_at xs q)
    → deadline_at (cond b (a ∷ x ∷ xs) (x ∷ with_pair a xs)) q ≡ cond (a.1 == q) (Some a.0) (deadline_at (x ∷ xs) q)
placed a x xs q true n h = deadline_at-cons a (x ∷ xs) q
placed a x xs q false n h =
    deadline_at-cons x (with_pair a xs) q
    ∙ (ap (λ o. cond (x.1 == q) (Some x.0) o) h
    ∙ (turned a.1 x.1 q (Some x.0) (Some a.0) (deadline_at xs q) n ∙ ap (λ o. cond (a.1 == q) (Some a.0) o) (sym (deadline_at-cons x xs q))))

deadline_at-with : (a : Pair) (xs : List Pair) (q : ℕ) → is_in a.1 (slots_of xs) ≡ false → deadline_at (with_pair a xs) q ≡ cond (a.1 == q) (Some a.0) (deadline_at xs q)
deadline_at-with a [] q out = deadline_at-cons a [] q
deadline_at-with a (x ∷ xs) q out =
    let apart = or_parts (nat_eq a.1 x.1) (is_in a.1 (slots_of xs)) out in
    placed a x xs q (is_before a x) apart.0 (deadline_at-with a xs q apart.1)

-- what goes is of the slot, and what stays is not
gone : (s t q : ℕ) (u w : Option Tick) → (t == s) ≡ true → cond (s == q) None w ≡ cond (s == q) None (cond (t == q) u w)
gone s t q u w e = grind (arith, nat_tests)

stays : (s t q : ℕ) (u w : Option Tick) → (t == s) ≡ false → cond (t == q) u (cond (s == q) None w) ≡ cond (s == q) None (cond (t == q) u w)
stays s t q u w e = grind (arith, nat_tests)

left : (s : ℕ) (x : Pair) (xs : List Pair) (q : ℕ) (b : Bool) → (x.1 == s) ≡ b → deadline_at (without_slot s xs) q ≡ cond (s == q) None (deadline_at xs q)
    → deadline_at (cond (not b) (x ∷ without_slot s xs) (without_slot s xs)) q ≡ cond (s == q) None (deadline_at (x ∷ xs) q)
left s x xs q true e h = h ∙ (gone s x.1 q (Some x.0) (deadline_at xs q) e ∙ ap (λ o. cond (s == q) None o) (sym (deadline_at-cons x xs q)))
left s x xs q false e h =
    deadline_at-cons x (without_slot s xs) q
    ∙ (ap (λ o. cond (x.1 == q) (Some x.0) o) h
    ∙ (stays s x.1 q (Some x.0) (deadline_at xs q) e ∙ ap (λ o. cond (s == q) None o) (sym (deadline_at-cons x xs q))))

none_twice : (b : Bool) → (let none : Option Tick = None in none) ≡ cond b None None
none_twice true = refl
none_twice false = refl

pub deadline_at-without : (s : ℕ) (xs : List Pair) (q : ℕ) → deadline_at (without_slot s xs) q ≡ cond (s == q) None (deadline_at xs q)
deadline_at-without s [] q = none_twice (s == q)
deadline_at-without s (x ∷ xs) q = left s x xs q (x.1 == s) refl (deadline_at-without s xs q)

-- ---- the deadlines of slots in a row

by_equality : (i j : ℕ) (b : Bool) → nat_eq i j ≡ b → (i ≡ j) ⊎ (i ≢ j)
by_equality i j true e = inl (grind (arith, nat_tests))
by_equality i j false e = inr (λ same. (let no : nat_eq i j ≡ true = grind (arith, nat_tests) in let never : true ≡ false = sym no ∙ e in absurd (cc)))

pub decided : (i j : ℕ) → (i ≡ j) ⊎ (i ≢ j)
decided i j = by_equality i j (nat_eq i j) refl

away_from : (first n s q : ℕ) → (s < first) ⊎ (first + n ≤ s) → first ≤ q → q < first + n → q ≢ s
away_from first n s q away le lt = elim away as (λ _. q ≢ s) [ inl h ↦ (λ same. absurd (omega arith)) | inr h ↦ (λ same. absurd (omega arith)) ]

same_from : (first n : ℕ) (xs ys : List Pair) → ((q : ℕ) → first ≤ q → q < first + n → deadline_at ys q ≡ deadline_at xs q) → deadlines_from first n ys ≡ deadlines_from first n xs
same_from first zero xs ys h = refl
same_from first (suc n) xs ys h =
    let here : deadline_at ys first ≡ deadline_at xs first = h first (omega arith) (omega arith) in
    let later : deadlines_from (suc first) n ys ≡ deadlines_from (suc first) n xs = same_from (suc first) n xs ys (λ q le lt. h q (omega arith) (omega arith)) in
    rw (here, later) refl

set_from : (first n s : ℕ) (xs ys : List Pair) (v : Option Tick) → first ≤ s → s < first + n → deadline_at ys s ≡ v → ((q : ℕ) → q ≢ s → deadline_at ys q ≡ deadline_at xs q)
    → deadlines_from first n ys ≡ set (deadlines_from first n xs) (s - first) v
set_from first zero s xs ys v le lt at others = absurd (omega arith)
set_from first (suc n) s xs ys v le lt at others =
    elim (decided first s) as (λ _. deadlines_from first (suc n) ys ≡ set (deadlines_from first (suc n) xs) (s - first) v) [
      | inl e ↦ (
          let zeroth : s - first ≡ 0 = omega arith in
          let here : deadline_at ys first ≡ v = ap (deadline_at ys) e ∙ at in
          let later : deadlines_from (suc first) n ys ≡ deadlines_from (suc first) n xs = same_from (suc first) n xs ys (λ q lq hq. others q (λ same. absurd (omega arith))) in
          rw (zeroth, here, later) refl
          )
      | inr ne ↦ (
          let next : s - first ≡ suc (s - suc first) = omega arith in
          let here : deadline_at ys first ≡ deadline_at xs first = others first (λ same. absurd (omega arith)) in
          let later : deadlines_from (suc first) n ys ≡ set (deadlines_from (suc first) n xs) (s - suc first) v = set_from (suc first) n s xs ys v (omega arith) (omega arith) at others in
          rw (next, here, later) refl
          )
    ]

other_slot : (s q : ℕ) (v w : Option Tick) → q ≢ s → cond (s == q) v w ≡ w
other_slot s q v w ne = grind (arith, nat_tests)

pub own_slot : (s : ℕ) (v w : Option Tick) → cond (s == s) v w ≡ v
own_slot s v w = grind (arith, nat_tests)

pub deadlines_from-with : (first n deadline slot : ℕ) (xs : List Pair) → is_in slot (slots_of xs) ≡ false → first ≤ slot → slot < first + n
    → deadlines_from first n (with_pair (deadline, slot) xs) ≡ set (deadlines_from first n xs) (slot - first) (Some deadline)
deadlines_from-with first n deadline slot xs out le lt =
    set_from first n slot xs (with_pair (deadline, slot) xs) (Some deadline) le lt
    (deadline_at-with (deadline, slot) xs slot out ∙ own_slot slot (Some deadline) (deadline_at xs slot))
    (λ q ne. deadline_at-with (deadline, slot) xs q out ∙ other_slot slot q (Some deadline) (deadline_at xs q) ne)

pub deadlines_from-with_other : (first n deadline slot : ℕ) (xs : List Pair) → is_in slot (slots_of xs) ≡ false → (slot < first) ⊎ (first + n ≤ slot)
    → deadlines_from first n (with_pair (deadline, slot) xs) ≡ deadlines_from first n xs
deadlines_from-with_other first n deadline slot xs out away =
    same_from first n xs (with_pair (deadline, slot) xs) (λ q le lt. deadline_at-with (deadline, slot) xs q out ∙ other_slot slot q (Some deadline) (deadline_at xs q) (away_from first n slot q away le lt))

pub deadlines_from-without : (first n slot : ℕ) (xs : List Pair) → first ≤ slot → slot < first + n → deadlines_from first n (without_slot slot xs) ≡ set (deadlines_from first n xs) (slot - first) None
deadlines_from-without first n slot xs le lt =
    set_from first n slot xs (without_slot slot xs) None le lt
    (deadline_at-without slot xs slot ∙ own_slot slot None (deadline_at xs slot))
    (λ q ne. deadline_at-without slot xs q ∙ other_slot slot q None (deadline_at xs q) ne)

pub deadlines_from-without_other : (first n slot : ℕ) (xs : List Pair) → (slot < first) ⊎ (first + n ≤ slot) → deadlines_from first n (without_slot slot xs) ≡ deadlines_from first n xs
deadlines_from-without_other first n slot xs away =
    same_from first n xs (without_slot slot xs) (λ q le lt. deadline_at-without slot xs q ∙ other_slot slot q None (deadline_at xs q) (away_from first n slot q away le lt))
