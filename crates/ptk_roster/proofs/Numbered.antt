-- Lists of which each entry is made with its number.
use Rattle.std.proofs.Common.{◌≡◌, ◌≢◌, ℕ, zero, suc, ◌+◌, ◌<◌, ◌≤◌, List, [], ◌∷◌, length, get_or, refl, sym, ◌∙◌, ap, arith}
use Rattle.std.specs.Prelude.{Option, None, slice_get, unwrap_or}
use Rattle.std.specs.Option.{option_flatten}
use Rattle.std.proofs.Math.ListN.{set}
use Rattle.ptk_roster.specs.Waiters.{numbered_from}

pub length-numbered : {A B : Type 0} (f : ℕ → A → B) (i : ℕ) (xs : List A) → length (numbered_from f i xs) ≡ length xs
length-numbered f i [] = refl
length-numbered f i (x ∷ xs) = ap suc (length-numbered f (suc i) xs)

-- ---- reading

pub numbered_at : {A B : Type 0} (f : ℕ → A → B) (i j k : ℕ) (xs : List A) (d : A) (e : B) → k ≡ i + j → f k d ≡ e → get_or (numbered_from f i xs) j e ≡ f k (get_or xs j d)
numbered_at f i j k [] d e is out = sym out
numbered_at f i zero k (x ∷ xs) d e is out = let here : i ≡ k = omega (arith, is) in ap (λ n. f n x) here
numbered_at f i (suc j) k (x ∷ xs) d e is out = numbered_at f (suc i) j k xs d e (omega (arith, is)) out

-- of entries that may be none
pub numbered_got : {A B : Type 0} (f : ℕ → Option A → Option B) (i j k : ℕ) (xs : List (Option A)) → k ≡ i + j → f k None ≡ None → option_flatten (slice_get (numbered_from f i xs) j) ≡ f k (option_flatten (slice_get xs j))
numbered_got f i j k [] is out = sym out
numbered_got f i zero k (x ∷ xs) is out = let here : i ≡ k = omega (arith, is) in ap (λ n. f n x) here
numbered_got f i (suc j) k (x ∷ xs) is out = numbered_got f (suc i) j k xs (omega (arith, is)) out

-- of entries with a default
pub numbered_read : {A B : Type 0} (f : ℕ → A → Option B) (i j k : ℕ) (xs : List A) (d : A) → k ≡ i + j → f k d ≡ None → option_flatten (slice_get (numbered_from f i xs) j) ≡ f k (unwrap_or (slice_get xs j) d)
numbered_read f i j k [] d is out = sym out
numbered_read f i zero k (x ∷ xs) d is out = let here : i ≡ k = omega (arith, is) in ap (λ n. f n x) here
numbered_read f i (suc j) k (x ∷ xs) d is out = numbered_read f (suc i) j k xs d (omega (arith, is)) out

-- ---- changes

-- the same is made at each number of the list
pub numbered_same : {A B : Type 0} (f g : ℕ → A → B) (i : ℕ) (xs : List A) → ((k : ℕ) (x : A) → i ≤ k → k < i + length xs → f k x ≡ g k x) → numbered_from f i xs ≡ numbered_from g i xs
numbered_same f g i [] same = refl
numbered_same f g i (x ∷ xs) same =
    ap (λ y. y ∷ numbered_from f (suc i) xs) (same i x (omega arith) (omega arith)) ∙ ap (λ l. g i x ∷ l) (numbered_same f g (suc i) xs (λ k y le lt. same k y (omega (arith, le)) (omega (arith, lt))))

-- one entry is another
pub numbered_set : {A B : Type 0} (f : ℕ → A → B) (i j k : ℕ) (xs : List A) (x : A) → k ≡ i + j → numbered_from f i (set xs j x) ≡ set (numbered_from f i xs) j (f k x)
numbered_set f i j k [] x is = refl
numbered_set f i zero k (y ∷ xs) x is = let here : i ≡ k = omega (arith, is) in ap (λ n. f n x ∷ numbered_from f (suc i) xs) here
numbered_set f i (suc j) k (y ∷ xs) x is = ap (λ l. f i y ∷ l) (numbered_set f (suc i) j k xs x (omega (arith, is)))

-- another is made of one entry
pub numbered_changed : {A B : Type 0} (f g : ℕ → A → B) (i j k : ℕ) (xs : List A) (d : A) → k ≡ i + j → ((n : ℕ) (x : A) → n ≢ k → g n x ≡ f n x) → numbered_from g i xs ≡ set (numbered_from f i xs) j (g k (get_or xs j d))
numbered_changed f g i j k [] d is same = refl
numbered_changed f g i zero k (x ∷ xs) d is same =
    let here : i ≡ k = omega (arith, is) in
    ap (λ n. g n x ∷ numbered_from g (suc i) xs) here ∙ ap (λ l. g k x ∷ l) (numbered_same g f (suc i) xs (λ n y le lt. same n y (λ e. absurd (omega (arith, le, e, here)))))
numbered_changed f g i (suc j) k (x ∷ xs) d is same =
    ap (λ y. y ∷ numbered_from g (suc i) xs) (same i x (λ e. absurd (omega (arith, e, is)))) ∙ ap (λ l. f i x ∷ l) (numbered_changed f g (suc i) j k xs d (omega (arith, is)) same)
