-- The order of expiries has the same expiries, none after a later one.
use Rattle.std.proofs.Common.{arith, ◌≡◌, suc, Bool, true, false, List, [], ◌∷◌, refl, ⊎_elim}
use Rattle.std.specs.Prelude.{All, AllPairs, IsPermutation}
use Rattle.std.proofs.lemmas.Bool.{ltb-true, ltb-false, eqb-true, eqb-false, or_cases, or_parts, and_parts, and_cases}
use Rattle.std.proofs.lemmas.List.Elements.{All-nil, All-cons}
use Rattle.std.proofs.lemmas.List.Kept.{AllPairs-cons}
use Rattle.std.proofs.lemmas.List.Sorted.{IsPermutation-refl, IsPermutation-cons, IsPermutation-trans, IsPermutation-middle, All-permutation}
use Rattle.ptk_words_model.specs.Withdrawal.{Expiry, expires_before, in_order_with, in_order}
use Rattle.ptk_words_laws.specs.Laws.{IsNotAfter, IsInOrder}

-- ---- one before the other

before_not_after : (a b : Expiry) → expires_before a b ≡ true → IsNotAfter a b
before_not_after a b e =
    ⊎_elim
    (λ first. let low = ltb-true a.deadline b.deadline first in (omega arith, λ same. absurd (omega arith)))
    (λ ties. let same = eqb-true a.deadline b.deadline (and_parts _ _ ties).0 in let low = ltb-true a.thread b.thread (and_parts _ _ ties).1 in (omega arith, λ _. omega arith))
    (or_cases _ _ e)

else_not_after : (a b : Expiry) → expires_before a b ≡ false → IsNotAfter b a
else_not_after a b e =
    let most = ltb-false a.deadline b.deadline (or_parts _ _ e).0 in (
      most,
      λ same. ⊎_elim
          (λ apart. absurd (eqb-false a.deadline b.deadline apart (omega arith)))
          (λ above. ltb-false a.thread b.thread above)
          (and_cases _ _ (or_parts _ _ e).1),
    )

not_after_trans : (a b c : Expiry) → IsNotAfter a b → IsNotAfter b c → IsNotAfter a c
not_after_trans a b c h k = (omega (arith, h.0, k.0), λ same. omega (arith, h.1 (omega (arith, h.0, k.0)), k.1 (omega (arith, h.0, k.0))))

-- ---- one more

with_same_step : (t : Bool) (a b : Expiry) (bs : List Expiry) → expires_before a b ≡ t → IsPermutation (a ∷ bs) (in_order_with expires_before a bs) → IsPermutation (a ∷ b ∷ bs) (in_order_with expires_before a (b ∷ bs))
with_same_step true a b bs e ih = rw e (IsPermutation-refl (a ∷ b ∷ bs))
with_same_step false a b bs e ih = rw e (IsPermutation-trans _ _ _ (IsPermutation-middle (a ∷ []) b bs) (IsPermutation-cons b _ _ ih))

with_same : (a : Expiry) (bs : List Expiry) → IsPermutation (a ∷ bs) (in_order_with expires_before a bs)
with_same a [] = IsPermutation-refl (a ∷ [])
with_same a (b ∷ bs) = with_same_step (expires_before a b) a b bs refl (with_same a bs)

abbrev Ordered : List Expiry → Type 0
Ordered = AllPairs IsNotAfter

after_head : (b : Expiry) (bs : List Expiry) → Ordered (b ∷ bs) → All (IsNotAfter b) bs
after_head b bs h k d within = h 0 (suc k) d (omega arith) (omega arith)

after_tail : (b : Expiry) (bs : List Expiry) → Ordered (b ∷ bs) → Ordered bs
after_tail b bs h i j d before within = h (suc i) (suc j) d (omega arith) (omega arith)

with_ordered_step : (t : Bool) (a b : Expiry) (bs : List Expiry) → expires_before a b ≡ t → Ordered (b ∷ bs) → Ordered (in_order_with expires_before a bs) → Ordered (in_order_with expires_before a (b ∷ bs))
with_ordered_step true a b bs e h ih =
    let first = before_not_after a b e in
    let rest : All (IsNotAfter a) bs = λ k d within. not_after_trans a b _ first (after_head b bs h k d within) in
    rw e (AllPairs-cons IsNotAfter a (b ∷ bs) (All-cons (IsNotAfter a) b bs first rest) h)
with_ordered_step false a b bs e h ih =
    let rest = All-permutation (IsNotAfter b) (a ∷ bs) (in_order_with expires_before a bs) (with_same a bs) (All-cons (IsNotAfter b) a bs (else_not_after a b e) (after_head b bs h)) in
    rw e (AllPairs-cons IsNotAfter b (in_order_with expires_before a bs) rest ih)

with_ordered : (a : Expiry) (bs : List Expiry) → Ordered bs → Ordered (in_order_with expires_before a bs)
with_ordered a [] h = AllPairs-cons IsNotAfter a [] (All-nil (IsNotAfter a)) h
with_ordered a (b ∷ bs) h = with_ordered_step (expires_before a b) a b bs refl h (with_ordered a bs (after_tail b bs h))

-- ---- all of them

same : (xs : List Expiry) → IsPermutation xs (in_order xs)
same [] = IsPermutation-refl []
same (a ∷ bs) = IsPermutation-trans _ _ _ (IsPermutation-cons a _ _ (same bs)) (with_same a (in_order bs))

ordered : (xs : List Expiry) → Ordered (in_order xs)
ordered [] = λ i j d before within. absurd (omega arith)
ordered (a ∷ bs) = with_ordered a (in_order bs) (ordered bs)

pub expiries_ordered : (xs : List Expiry) → IsInOrder xs
expiries_ordered xs = record { same = same xs; ordered = ordered xs }
