-- The input due by a tick stands before the rest, where its ticks never fall.
use Rattle.std.proofs.Common.{arith, ◌≡◌, ℕ, suc, ◌≤◌, Bool, true, false, not, List, [], ◌∷◌, length, drop, refl, ap}
use Rattle.std.specs.Prelude.{take_while, filter, All, AllPairs}
use Rattle.std.proofs.lemmas.Bool.{leb-false, lt-leb}
use Rattle.std.proofs.lemmas.List.Elements.{All-head, All-tail}
use Rattle.std.proofs.lemmas.List.Sums.{take_while-cons}
use Rattle.ptk_words.specs.declared.sections.Arrival.{Arrival}
use Rattle.ptk_words_model.specs.State.{Console}
use Rattle.ptk_words_model.specs.Console.{is_due_at}
use Rattle.ptk_words_laws.specs.Laws.{ArrivalsAreDue}

-- the ticks never fall
abbrev Rises : List Arrival → Type 0
Rises = AllPairs (λ a b. a.tick ≤ b.tick)

module _ (tick : ℕ) where
  -- it comes after the tick
  abbrev is_later : Arrival → Bool
  is_later a = not (is_due_at tick a)

  -- what stands from the front on is all that is due, and what follows is all the rest
  abbrev Splits : List Arrival → Type 0
  Splits xs = (take_while (is_due_at tick) xs ≡ filter (is_due_at tick) xs) × (drop (length (take_while (is_due_at tick) xs)) xs ≡ filter is_later xs)

  none_due : (xs : List Arrival) → All (λ a. is_due_at tick a ≡ false) xs → (filter (is_due_at tick) xs ≡ []) × (filter is_later xs ≡ xs)
  none_due [] later = (refl, refl)
  none_due (x ∷ xs) later =
      let rest = none_due xs (All-tail (λ a. is_due_at tick a ≡ false) x xs later) in
      rw (All-head (λ a. is_due_at tick a ≡ false) x xs later) (rest.0, ap (λ ys. x ∷ ys) rest.1)

  all_later : (x : Arrival) (xs : List Arrival) → Rises (x ∷ xs) → is_due_at tick x ≡ false → All (λ a. is_due_at tick a ≡ false) xs
  all_later x xs rises later k d within = lt-leb _ _ (omega (arith, leb-false x.tick tick later, rises 0 (suc k) d (omega arith) (omega arith)))

  splits_step : (b : Bool) (x : Arrival) (xs : List Arrival) → is_due_at tick x ≡ b → Rises (x ∷ xs) → Splits xs → Splits (x ∷ xs)
  splits_step true x xs due rises rest = rw (take_while-cons (is_due_at tick) x xs, due) (ap (λ ys. x ∷ ys) rest.0, rest.1)
  splits_step false x xs later rises rest =
      let none = none_due xs (all_later x xs rises later) in
      rw (later, none.0, none.1) (refl, refl)

  splits : (xs : List Arrival) → Rises xs → Splits xs
  splits [] rises = (refl, refl)
  splits (x ∷ xs) rises = splits_step (is_due_at tick x) x xs refl rises (splits xs (λ i j d before within. rises (suc i) (suc j) d (omega arith) (omega arith)))

pub arrivals_due : (console : Console) → ArrivalsAreDue console
arrivals_due console rises tick =
    let parts = splits tick console.coming rises in
    record { come = parts.0; stay = ap (λ (xs : List Arrival). record console { coming = xs }) parts.1 }
