-- Entries by number, read and written at an index.
use Rattle.std.proofs.Common.{arith, ◌≡◌, ℕ, ◌-◌, ◌<◌, ◌≤◌, zero, suc, List, [], ◌∷◌, length, get_or, map, refl, ◌∙◌, ap, add-one}
use Rattle.std.specs.Prelude.{slice_set}
use Rattle.std.proofs.lemmas.List.{set_past}
use Rattle.ptk_words.proofs.Pools.{pool_set_below}
use Rattle.ptk_words.proofs.Entries.{numbered_below, updated_at, updated_past, updated_to}

pub ruleset numbers = (numbered_below, pool_set_below, updated_at, updated_past, add-one, set_past)

-- ---- an entry written

pub ruleset entries = (updated_to)

-- ---- every entry written, one after another

-- the first i entries are changed
abbrev pub changed_to : {A : Type 0} → (A → A) → ℕ → List A → List A
changed_to f zero xs = xs
changed_to f (suc i) [] = []
changed_to f (suc i) (x ∷ xs) = f x ∷ changed_to f i xs

pub length-changed_to : {A : Type 0} (f : A → A) (i : ℕ) (xs : List A) → length (changed_to f i xs) ≡ length xs
length-changed_to f zero xs = refl
length-changed_to f (suc i) [] = refl
length-changed_to f (suc i) (x ∷ xs) = ap suc (length-changed_to f i xs)

pub changed_next : {A : Type 0} (f : A → A) (i : ℕ) (xs was new : List A) (x : A) → was ≡ changed_to f i xs → i < length xs → x ≡ get_or was i x → new ≡ slice_set was i (f x) → new ≡ changed_to f (suc i) xs
changed_next f i [] was new x w lt is e = absurd (omega (arith, lt))
changed_next f zero (y ∷ ys) was new x w lt is e = e ∙ rw w (ap (λ z. f z ∷ ys) (is ∙ ap (λ l. get_or l zero x) w))
changed_next f (suc i) (y ∷ ys) was new x w lt is e =
    e ∙ rw w (ap (λ l. f y ∷ l) (changed_next f i ys (changed_to f i ys) (slice_set (changed_to f i ys) i (f x)) x refl (omega (arith, lt)) (is ∙ ap (λ l. get_or l (suc i) x) w) refl))

pub changed_all : {A : Type 0} (f : A → A) (i : ℕ) (xs : List A) → length xs ≤ i → changed_to f i xs ≡ map f xs
changed_all f zero [] le = refl
changed_all f zero (x ∷ xs) le = absurd (omega (arith, le))
changed_all f (suc i) [] le = refl
changed_all f (suc i) (x ∷ xs) le = ap (λ l. f x ∷ l) (changed_all f i xs (omega (arith, le)))

pub ruleset by_thread = (changed_next, changed_all, length-changed_to, add-one)
