-- Two functions on the ticks that repeat, each with a period of its own.
use Rattle.std.proofs.Common.{◌≡◌, ℕ, zero, suc, ◌+◌, ◌-◌, ◌<◌, ◌≤◌, sym, ap, ◌∙◌, inl, inr, arith}
use Rattle.std.proofs.lemmas.Bool.{cases_lt}

-- between the two ticks each value is the one a period before, moved on
abbrev pub Repeats : {X : Type 0} → (X → X) → (ℕ → X) → ℕ → ℕ → ℕ → Type 0
Repeats moved f period low top = (k : ℕ) → low ≤ k → k + period ≤ top → f (k + period) ≡ moved (f k)

-- one step: they agree at a tick if they agree a period of either and both periods before
agree_at : {X : Type 0} (m n : X → X) (f g : ℕ → X) (F G low top j k : ℕ) → ((x : X) → m (n x) ≡ n (m x)) → Repeats m f F low top → Repeats n g G low top
    → low ≤ j → k ≡ j + G + F → k ≤ top → f j ≡ g j → f (j + F) ≡ g (j + F) → f (j + G) ≡ g (j + G) → f k ≡ g k
agree_at m n f g F G low top j k commute f_repeats g_repeats from is to same same_F same_G =
    let f_last : f (j + G + F) ≡ m (f (j + G)) = f_repeats (j + G) (omega (arith, from)) (omega (arith, is, to)) in
    let g_before : g (j + G) ≡ n (g j) = g_repeats j from (omega (arith, is, to)) in
    let f_before : f (j + F) ≡ m (f j) = f_repeats j from (omega (arith, is, to)) in
    let g_last : g (j + F + G) ≡ n (g (j + F)) = g_repeats (j + F) (omega (arith, from)) (omega (arith, is, to)) in
    let turned : j + F + G ≡ k = omega (arith, is) in
    ap f is ∙ (f_last ∙ (ap m (same_G ∙ g_before) ∙ (commute (g j) ∙ (ap n (ap m (sym same) ∙ (sym f_before ∙ same_F)) ∙ (sym g_last ∙ ap g turned)))))

agree_below : {X : Type 0} (m n : X → X) (f g : ℕ → X) (F G low top count : ℕ) → 0 < F → 0 < G → ((x : X) → m (n x) ≡ n (m x)) → Repeats m f F low top → Repeats n g G low top
    → ((k : ℕ) → low ≤ k → k < low + (F + G) → k ≤ top → f k ≡ g k) → (k : ℕ) → k < count → low ≤ k → k ≤ top → f k ≡ g k
agree_below m n f g F G low top zero F_some G_some commute f_repeats g_repeats near k below from to = absurd (omega (arith, below))
agree_below m n f g F G low top (suc count) F_some G_some commute f_repeats g_repeats near k below from to =
    let earlier = agree_below m n f g F G low top count F_some G_some commute f_repeats g_repeats near in
    elim (cases_lt k (low + (F + G))) [
      | inl close ↦ near k from close to
      | inr far ↦
          let j = k - (F + G) in
          agree_at m n f g F G low top j k commute f_repeats g_repeats (omega (arith, far)) (omega (arith, far)) to
          (earlier j (omega (arith, far, below, F_some)) (omega (arith, far)) (omega (arith, to)))
          (earlier (j + F) (omega (arith, far, below, G_some)) (omega (arith, far)) (omega (arith, far, to)))
          (earlier (j + G) (omega (arith, far, below, F_some)) (omega (arith, far)) (omega (arith, far, to)))
    ]

-- functions that repeat with periods F and G, and whose moves commute, agree up to the top if they agree on the first F + G ticks
pub agree_on : {X : Type 0} (m n : X → X) (f g : ℕ → X) (F G low top : ℕ) → 0 < F → 0 < G → ((x : X) → m (n x) ≡ n (m x)) → Repeats m f F low top → Repeats n g G low top
    → ((k : ℕ) → low ≤ k → k < low + (F + G) → k ≤ top → f k ≡ g k) → (k : ℕ) → low ≤ k → k ≤ top → f k ≡ g k
agree_on m n f g F G low top F_some G_some commute f_repeats g_repeats near k from to =
    agree_below m n f g F G low top (suc k) F_some G_some commute f_repeats g_repeats near k (omega arith) from to
