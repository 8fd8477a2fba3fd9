-- What a search by halves finds in windows that stand in order.
use Rattle.std.proofs.Common.{◌≡◌, ℕ, ◌+◌, ◌-◌, ◌<◌, ◌≤◌, true, false, ltb, leb, eqb, ◌&&◌, List, length, get_or, All, sym, ap, subst, ◌∙◌, inl, inr, ◌⊎◌, arith}
use Rattle.std.specs.List.Sorted.{IsNonDecreasingBy, IsPartitionedBy, IsPartitionPoint}
use Rattle.std.proofs.lemmas.Bool.{cases_order, cases_lt, or_cases, or_parts, and_parts, and_cases, and_from, or_left, or_right, ltb-true, ltb-false, leb-true, leb-false, eqb-true, eqb-false, lt-ltb, le-leb, eq-eqb}
use Rattle.std.proofs.lemmas.List.{get_or_default}
use Rattle.ptk_words_model.specs.declared.window.Window.{Window}
use Rattle.ptk_words_model.specs.Windows.{Holds}
use Rattle.ptk_window.specs.Order.{AreInOrder, AreGrouped, IsFirstAfter, is_past}

-- ---- the window that holds a place
pub starts_rise : (ws : List Window) → AreInOrder ws → IsNonDecreasingBy (λ (w : Window). w.start) ws
starts_rise ws ordered i j d low below =
    elim (cases_order i j) [
      | inl same ↦ subst (λ (k : ℕ). (get_or ws i d).start ≤ (get_or ws k d).start) same (omega arith)
      | inr (inl before) ↦ omega (arith, ordered i j d before below)
      | inr (inr after) ↦ absurd (omega arith)
    ]

abbrev Begun : ℕ → List Window → ℕ → Type 0
Begun place ws i = IsPartitionPoint (λ (w : Window). leb w.start place ≡ true) (λ (w : Window). leb w.start place ≡ false) ws i

pub begun_at : (place : ℕ) (ws : List Window) (i k : ℕ) (d : Window) → Begun place ws i → k < i → (get_or ws k d).start ≤ place
begun_at place ws i k d begun below = leb-true (get_or ws k d).start place (begun.0 k d (omega arith) below)

-- no window holds the place where the last that began has ended, or none began
pub none_holds : (place : ℕ) (ws : List Window) (i : ℕ) → AreInOrder ws → i ≤ length ws → Begun place ws i → ((d : Window) → 0 < i → (get_or ws (i - 1) d).start + (get_or ws (i - 1) d).length ≤ place) → All (λ w. ¬ Holds w place) ws
none_holds place ws i ordered within begun ended k d below holds =
    elim (cases_lt k i) [
      | inl before ↦
          let last = ended d (omega arith) in
          elim (cases_order k (i - 1)) [
            | inl same ↦ omega (arith, subst (λ (n : ℕ). (get_or ws n d).start + (get_or ws n d).length ≤ place) (sym same) last, holds.1)
            | inr (inl far) ↦
                let far_end = ordered k (i - 1) d far (omega arith) in
                omega (arith, far_end, last, holds.1)
            | inr (inr after) ↦ omega arith
          ]
      | inr later ↦ omega (arith, leb-false (get_or ws k d).start place (begun.1 k d later below), holds.0)
    ]

-- ---- the first of a partition's windows that ends after a place
past_cases : (p place : ℕ) (w : Window) → is_past p place w ≡ true → (w.partition < p) ⊎ ((w.partition ≡ p) × (w.start + w.length ≤ place))
past_cases p place w past =
    elim (or_cases (ltb w.partition p) (eqb w.partition p && leb (w.start + w.length) place) past) [
      | inl lower ↦ inl (ltb-true w.partition p lower)
      | inr both ↦
          let parts = and_parts (eqb w.partition p) (leb (w.start + w.length) place) both in
          inr (eqb-true w.partition p parts.0, leb-true (w.start + w.length) place parts.1)
    ]

past_from : (p place : ℕ) (w : Window) → (w.partition < p) ⊎ ((w.partition ≡ p) × (w.start + w.length ≤ place)) → is_past p place w ≡ true
past_from p place w (inl lower) = or_left (ltb w.partition p) (eqb w.partition p && leb (w.start + w.length) place) (lt-ltb w.partition p lower)
past_from p place w (inr both) =
    or_right (ltb w.partition p) (eqb w.partition p && leb (w.start + w.length) place)
    (and_from (eqb w.partition p) (leb (w.start + w.length) place) (eq-eqb w.partition p both.0) (le-leb (w.start + w.length) place both.1))

not_past : (p place : ℕ) (w : Window) → is_past p place w ≡ false → (p ≤ w.partition) × (w.partition ≡ p → place < w.start + w.length)
not_past p place w not_yet =
    let parts = or_parts (ltb w.partition p) (eqb w.partition p && leb (w.start + w.length) place) not_yet in (
      ltb-false w.partition p parts.0,
      λ same.
          elim (and_cases (eqb w.partition p) (leb (w.start + w.length) place) parts.1) [
            | inl differ ↦ absurd (eqb-false w.partition p differ same)
            | inr after ↦ leb-false (w.start + w.length) place after
          ],
    )

pub past_first : (p place : ℕ) (ws : List Window) → AreGrouped ws → IsPartitionedBy (is_past p place) ws
past_first p place ws grouped i j d low below past =
    elim (cases_order i j) [
      | inl same ↦ subst (λ (k : ℕ). is_past p place (get_or ws k d) ≡ true) (sym same) past
      | inr (inl before) ↦
          let order = grouped i j d before below in
          past_from p place (get_or ws i d)
          (elim (past_cases p place (get_or ws j d) past) [
            | inl lower ↦ inl (omega (arith, order.0))
            | inr both ↦
                elim (cases_lt (get_or ws i d).partition p) [
                  | inl lower ↦ inl lower
                  | inr high ↦
                      let same : (get_or ws i d).partition ≡ p = omega (arith, order.0, both.0) in
                      let ends = order.1 (same ∙ sym both.0) in
                      inr (same, omega (arith, ends, both.1))
                ]
          ])
      | inr (inr after) ↦ absurd (omega arith)
    ]

abbrev Past : ℕ → ℕ → List Window → ℕ → Type 0
Past p place ws i = IsPartitionPoint (λ w. is_past p place w ≡ true) (λ w. is_past p place w ≡ false) ws i

-- the partition has no window that ends after the place where the first that is not past is another's
pub none_after : (p place : ℕ) (ws : List Window) (i : ℕ) → AreGrouped ws → i ≤ length ws → Past p place ws i → ((d : Window) → i < length ws → (get_or ws i d).partition ≡ p → ⊥) → All (λ w. w.partition ≡ p → w.start + w.length ≤ place) ws
none_after p place ws i grouped within past other k d below same =
    elim (cases_lt k i) [
      | inl before ↦
          elim (past_cases p place (get_or ws k d) (past.0 k d (omega arith) before)) [
            | inl lower ↦ absurd (omega (arith, lower, same))
            | inr both ↦ both.1
          ]
      | inr later ↦
          let first = not_past p place (get_or ws i d) (past.1 i d (omega arith) (omega arith)) in
          let low : (get_or ws i d).partition ≤ (get_or ws k d).partition =
          elim (cases_order i k) [
            | inl same_place ↦ subst (λ (n : ℕ). (get_or ws i d).partition ≤ (get_or ws n d).partition) same_place (omega arith)
            | inr (inl before) ↦ (grouped i k d before below).0
            | inr (inr after) ↦ absurd (omega arith)
          ] in
          absurd (other d (omega arith) (omega (arith, low, first.0, same)))
    ]

pub found_ends : (p place : ℕ) (ws : List Window) (i : ℕ) (d : Window) → i < length ws → Past p place ws i → (get_or ws i d).partition ≡ p → place < (get_or ws i d).start + (get_or ws i d).length
found_ends p place ws i d below past same = (not_past p place (get_or ws i d) (past.1 i d (omega arith) below)).1 same

-- where the first that is not past is the partition's, it is its first that ends after the place
pub found_first : (p place : ℕ) (ws : List Window) (i : ℕ) (w : Window) → i < length ws → Past p place ws i → get_or ws i w ≡ w → w.partition ≡ p → IsFirstAfter ws p place i
found_first p place ws i w below past is same =
    let same_at : (get_or ws i w).partition ≡ p = subst (λ (v : Window). v.partition ≡ p) (sym is) same in
    record {
      window = w;
      within = below;
      is = is;
      own = same;
      after = subst (λ (v : Window). place < v.start + v.length) is (found_ends p place ws i w below past same_at);
      before = λ k d under of_p.
          elim (past_cases p place (get_or ws k d) (past.0 k d (omega arith) under)) [
            | inl lower ↦ absurd (omega (arith, lower, of_p))
            | inr both ↦ both.1
          ];
    }

-- of a partition's windows those that stand later begin later
pub starts_order : (ws : List Window) (i k : ℕ) (w d : Window) → AreGrouped ws → i ≤ k → k < length ws → get_or ws i w ≡ w → (get_or ws k d).partition ≡ w.partition → w.start ≤ (get_or ws k d).start
starts_order ws i k w d grouped low below is same =
    let is_d : get_or ws i d ≡ w = get_or_default ws i d w (omega arith) ∙ is in
    elim (cases_order i k) [
      | inl same_place ↦ subst (λ (n : ℕ). w.start ≤ (get_or ws n d).start) same_place (subst (λ (v : Window). w.start ≤ v.start) (sym is_d) (omega arith))
      | inr (inl before) ↦
          let ends = (grouped i k d before below).1 (ap (λ (v : Window). v.partition) is_d ∙ sym same) in
          let past : w.start + w.length ≤ (get_or ws k d).start = subst (λ (v : Window). v.start + v.length ≤ (get_or ws k d).start) is_d ends in
          omega (arith, past)
      | inr (inr after) ↦ absurd (omega arith)
    ]
