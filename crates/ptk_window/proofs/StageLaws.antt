-- Which stage of the tables has a tick, and its windows in their orders.
use Rattle.std.proofs.Common.{◌≡◌, ℕ, zero, suc, ◌+◌, ◌-◌, ◌*◌, ◌/◌, ◌%◌, ◌<◌, ◌≤◌, true, false, leb, List, [], ◌∷◌, ◌++◌, map, take, length, get_or, Any, Contains, IsPermutation, refl, sym, ap, subst, ◌∙◌, inl, inr, arith, suc-mul}
use Rattle.std.proofs.lemmas.Bool.{cases_order, cases_lt, leb-true, leb-false}
use Rattle.std.specs.List.Sorted.{IsNonDecreasingBy, IsPartitionPoint}
use Rattle.std.proofs.lemmas.List.{length-map, map-append, map_more, get_or_default}
use Rattle.std.proofs.lemmas.List.Sorted.{Contains-permutation, IsPermutation-sym}
use Rattle.std.proofs.lemmas.Nat.{div-add-mod'}
use Rattle.std.proofs.Math.Nat.{mul-le-mul_right}
use Rattle.ptk_words_model.specs.declared.window.Window.{Window}
use Rattle.ptk_words_model.specs.Windows.{Stage, Holds, IsOwn, IsInForce, windows_at}
use Rattle.ptk_words_model.proofs.InForce.{in_force, one_in_force, tick_from, from_tick}
use Rattle.ptk_window.specs.declared.table.Table.{Table}
use Rattle.ptk_window.specs.Order.{IsOrdered}
use Rattle.ptk_window.specs.Stages.{ArePlanned, HasTick, stage_of, plan_of, from_at, groups_at}

-- ---- the table at a place
pub table_at : (tables : List Table) (i : ℕ) → i < length tables → (t : Table) × (get_or tables i t ≡ t)
table_at [] i below = absurd (omega arith)
table_at (t ∷ tables) zero below = (t, refl)
table_at (t ∷ tables) (suc i) below = table_at tables i (omega (arith, below))

pub from_is : (tables : List Table) (i : ℕ) (t : Table) → i < length tables → get_or tables i t ≡ t → from_at tables i ≡ t.from
from_is [] i t below is = absurd (omega arith)
from_is (u ∷ tables) zero t below is = ap (λ (v : Table). v.from) is
from_is (u ∷ tables) (suc i) t below is = from_is tables i t (omega (arith, below)) is

pub groups_is : (tables : List Table) (i : ℕ) (t : Table) → i < length tables → get_or tables i t ≡ t → groups_at tables i ≡ t.by_partition.items
groups_is [] i t below is = absurd (omega arith)
groups_is (u ∷ tables) zero t below is = ap (λ (v : Table). v.by_partition.items) is
groups_is (u ∷ tables) (suc i) t below is = groups_is tables i t (omega (arith, below)) is

stage_is : (tables : List Table) (i : ℕ) (t : Table) (e : Stage) → i < length tables → get_or tables i t ≡ t → get_or (map stage_of tables) i e ≡ stage_of t
stage_is [] i t e below is = absurd (omega arith)
stage_is (u ∷ tables) zero t e below is = ap stage_of is
stage_is (u ∷ tables) (suc i) t e below is = stage_is tables i t e (omega (arith, below)) is

pub number_is : (tables : List Table) (i : ℕ) (e : Stage) → i < length tables → (get_or (map stage_of tables) i e).from ≡ from_at tables i
number_is [] i e below = absurd (omega arith)
number_is (u ∷ tables) zero e below = refl
number_is (u ∷ tables) (suc i) e below = number_is tables i e (omega (arith, below))

-- as the code reads them
pub groups_slice : (tables : List Table) (i : ℕ) (t : Table) (ws : List Window) → i < length tables → t ≡ get_or tables i t → ws ≡ (get_or tables i t).by_partition.items → groups_at tables i ≡ ws
groups_slice tables i t ws below is same = groups_is tables i t below (sym is) ∙ (ap (λ (u : Table). u.by_partition.items) is ∙ sym same)

-- ---- frames
-- from a frame's beginning to a later one's there is a frame
pub aligned_room : (frame start number : ℕ) → start % frame ≡ 0 → start < number * frame → start + frame ≤ number * frame
aligned_room frame start number aligned below =
    let split = div-add-mod' start frame in
    let whole : start ≡ start / frame * frame = omega (arith, split, aligned) in
    let less : start / frame < number =
    elim (cases_lt (start / frame) number) [
      | inl less ↦ less
      | inr more ↦ absurd (omega (arith, mul-le-mul_right frame more, whole, below))
    ] in
    let step = mul-le-mul_right {m = suc (start / frame)} {n = number} frame less in
    omega (arith, step, suc-mul (start / frame) frame, whole)

module _ (frame : ℕ) (tables : List Table) (are : ArePlanned frame tables) where
  pub ordered_at : (i : ℕ) (t : Table) → i < length tables → get_or tables i t ≡ t → IsOrdered frame t.windows.items t.by_start.items t.by_partition.items
  ordered_at i t below is =
      subst (λ (u : Table). IsOrdered frame u.windows.items u.by_start.items u.by_partition.items) is (are.ordered i t below)

  pub begin_is : (i : ℕ) (t : Table) → i < length tables → t ≡ get_or tables i t → t.from * t.frame ≡ from_at tables i * frame
  begin_is i t below is =
      let of_frame : t.frame ≡ frame = subst (λ (u : Table). u.frame ≡ frame) (sym is) (are.frames i t below) in
      ap (λ (n : ℕ). t.from * n) of_frame ∙ ap (λ (n : ℕ). n * frame) (sym (from_is tables i t below (sym is)))

  pub from_rises : (i j : ℕ) → i < j → j < length tables → from_at tables i < from_at tables j
  from_rises i j before below =
      let first : Stage = record { from = 0; windows = [] } in
      let rise = are.plan.rising i j first before (omega (arith, length-map tables stage_of, below)) in
      omega (arith, rise, number_is tables i first (omega (arith, before, below)), number_is tables j first below)

  pub from_low : (i j : ℕ) → i ≤ j → j < length tables → from_at tables i * frame ≤ from_at tables j * frame
  from_low i j low below =
      elim (cases_order i j) [
        | inl same ↦ subst (λ (n : ℕ). from_at tables i * frame ≤ from_at tables n * frame) same (omega arith)
        | inr (inl before) ↦ mul-le-mul_right frame (omega (arith, from_rises i j before below))
        | inr (inr after) ↦ absurd (omega (arith, low, after))
      ]

  -- ---- the stage that has a tick
  force_at : (i tick : ℕ) (t : Table) → HasTick frame tables i tick → get_or tables i t ≡ t → IsInForce (map stage_of tables) (tick / frame) (stage_of t)
  force_at i tick t has is =
      let number : from_at tables i ≡ t.from = from_is tables i t has.within is in
      record {
        listed = (i, stage_of t, omega (arith, length-map tables stage_of, has.within), stage_is tables i t (stage_of t) has.within is, refl);
        begun = from_tick frame tick t.from are.plan.frame (subst (λ (n : ℕ). n * frame ≤ tick) number has.begun);
        latest = λ k d below begun.
            let within : k < length tables = omega (arith, length-map tables stage_of, below) in
            let at_k : (get_or (map stage_of tables) k d).from ≡ from_at tables k = number_is tables k d within in
            elim (cases_order k i) [
              | inl same ↦ omega (arith, at_k, subst (λ (n : ℕ). from_at tables n ≡ t.from) (sym same) number)
              | inr (inl before) ↦ omega (arith, at_k, from_rises k i before has.within, number)
              | inr (inr after) ↦
                  let far = from_low (i + 1) k (omega (arith, after)) within in
                  let under = tick_from frame tick (from_at tables k) (subst (λ (n : ℕ). n ≤ tick / frame) at_k begun) in
                  absurd (omega (arith, far, under, has.next (omega (arith, after, within))))
            ];
      }

  pub windows_there : (i tick : ℕ) (t : Table) → HasTick frame tables i tick → get_or tables i t ≡ t → windows_at (plan_of frame tables) tick ≡ t.windows.items
  windows_there i tick t has is = in_force (map stage_of tables) (tick / frame) (stage_of t) are.plan.rising (force_at i tick t has is)

  pub some_has : (tick : ℕ) → (i : ℕ) × HasTick frame tables i tick
  some_has tick =
      let one = one_in_force (plan_of frame tables) (tick / frame) are.plan in
      let stage = one.0 in
      let i = one.1.listed.0 in
      let within : i < length tables = omega (arith, length-map tables stage_of, one.1.listed.2) in
      let number : from_at tables i ≡ stage.from = sym (number_is tables i one.1.listed.1 within) ∙ ap (λ (s : Stage). s.from) (one.1.listed.3 ∙ one.1.listed.4) in (
        i,
        record {
          within = within;
          begun = subst (λ (n : ℕ). n * frame ≤ tick) (sym number) (tick_from frame tick stage.from one.1.begun);
          next = λ more.
              elim (cases_lt tick (from_at tables (i + 1) * frame)) [
                | inl before ↦ before
                | inr begun ↦
                    let at_next = number_is tables (i + 1) stage more in
                    let latest = one.1.latest (i + 1) stage (omega (arith, length-map tables stage_of, more))
                    (subst (λ (n : ℕ). n ≤ tick / frame) (sym at_next) (from_tick frame tick (from_at tables (i + 1)) are.plan.frame begun)) in
                    absurd (omega (arith, latest, at_next, number, from_rises i (i + 1) (omega arith) more))
              ];
        },
      )

  -- it has each tick of its frame
  pub frame_has : (i start k : ℕ) → HasTick frame tables i start → start % frame ≡ 0 → start ≤ k → k < start + frame → HasTick frame tables i k
  frame_has i start k has aligned from to =
      record {
        within = has.within;
        begun = omega (arith, has.begun, from);
        next = λ more. omega (arith, aligned_room frame start (from_at tables (i + 1)) aligned (has.next more), to);
      }

  -- ---- own ticks by the windows of the stage
  abbrev Held : ℕ → ℕ → List Window → Type 0
  Held p tick ws = Any (λ w. (w.partition ≡ p) × Holds w (tick % frame)) ws

  held_moved : (p tick : ℕ) (xs ys : List Window) → IsPermutation xs ys → Held p tick xs → Held p tick ys
  held_moved p tick xs ys moved h =
      let there = Contains-permutation xs ys h.1 moved (h.0, h.2, h.3) in
      (there.0, h.1, there.1, there.2, h.4)

  pub own_starts : (i p tick : ℕ) (t : Table) → HasTick frame tables i tick → get_or tables i t ≡ t → IsOwn (plan_of frame tables) p tick → Held p tick t.by_start.items
  own_starts i p tick t has is own =
      held_moved p tick t.windows.items t.by_start.items (ordered_at i t has.within is).starts (subst (λ (ws : List Window). Held p tick ws) (windows_there i tick t has is) own)

  pub own_groups : (i p tick : ℕ) → HasTick frame tables i tick → IsOwn (plan_of frame tables) p tick → Held p tick (groups_at tables i)
  own_groups i p tick has own =
      let at = table_at tables i has.within in
      let t = at.0 in
      subst (λ (ws : List Window). Held p tick ws) (sym (groups_is tables i t has.within at.1))
      (held_moved p tick t.windows.items t.by_partition.items (ordered_at i t has.within at.1).groups (subst (λ (ws : List Window). Held p tick ws) (windows_there i tick t has at.1) own))

  pub groups_own : (i tick : ℕ) (w : Window) → HasTick frame tables i tick → Contains (groups_at tables i) w → Contains (windows_at (plan_of frame tables) tick) w
  groups_own i tick w has among =
      let at = table_at tables i has.within in
      let t = at.0 in
      subst (λ (ws : List Window). Contains ws w) (sym (windows_there i tick t has at.1))
      (Contains-permutation t.by_partition.items t.windows.items w (IsPermutation-sym t.windows.items t.by_partition.items (ordered_at i t has.within at.1).groups)
      (subst (λ (ws : List Window). Contains ws w) (groups_is tables i t has.within at.1) among))

  -- ---- the search for the stage that has a tick
  pub froms_rise : IsNonDecreasingBy (λ (t : Table). t.from) tables
  froms_rise i j d low below =
      let at_i = from_is tables i (get_or tables i d) (omega (arith, low, below)) (get_or_default tables i (get_or tables i d) d (omega (arith, low, below))) in
      let at_j = from_is tables j (get_or tables j d) below (get_or_default tables j (get_or tables j d) d below) in
      elim (cases_order i j) [
        | inl same ↦ subst (λ (n : ℕ). (get_or tables i d).from ≤ (get_or tables n d).from) same (omega arith)
        | inr (inl before) ↦ omega (arith, at_i, at_j, from_rises i j before below)
        | inr (inr after) ↦ absurd (omega (arith, low, after))
      ]

  abbrev Begun : ℕ → ℕ → Type 0
  Begun number i = IsPartitionPoint (λ (t : Table). leb t.from number ≡ true) (λ (t : Table). leb t.from number ≡ false) tables i

  first_zero : from_at tables 0 ≡ 0
  first_zero =
      let first = are.plan.begins in
      let within : first.0 < length tables = omega (arith, length-map tables stage_of, first.2) in
      let zero_there : from_at tables first.0 ≡ 0 = sym (number_is tables first.0 first.1 within) ∙ (ap (λ (s : Stage). s.from) first.3 ∙ first.4) in
      elim (cases_lt 0 first.0) [
        | inl later ↦ omega (arith, from_rises 0 first.0 later within, zero_there)
        | inr none ↦ subst (λ (n : ℕ). from_at tables n ≡ 0) (omega (arith, none)) zero_there
      ]

  some_table : 0 < length tables
  some_table = omega (arith, are.plan.begins.2, length-map tables stage_of)

  pub begun_some : (number i : ℕ) → Begun number i → 1 ≤ i
  begun_some number i point =
      elim (cases_lt 0 i) [
        | inl some ↦ some
        | inr none ↦
            let at = table_at tables 0 some_table in
            let other = leb-false (get_or tables 0 at.0).from number (point.1 0 at.0 (omega (arith, none)) some_table) in
            let same : (get_or tables 0 at.0).from ≡ 0 = subst (λ (t : Table). t.from ≡ 0) (sym at.1) (sym (from_is tables 0 at.0 some_table at.1) ∙ first_zero) in
            absurd (omega (arith, other, same))
      ]

  pub point_has : (tick i : ℕ) → i ≤ length tables → Begun (tick / frame) i → HasTick frame tables (i - 1) tick
  point_has tick i bound point =
      let some = begun_some (tick / frame) i point in
      let within : i - 1 < length tables = omega (arith, some, bound) in
      let at = table_at tables (i - 1) within in
      let begun = leb-true (get_or tables (i - 1) at.0).from (tick / frame) (point.0 (i - 1) at.0 (omega arith) (omega (arith, some))) in
      let number : from_at tables (i - 1) ≡ (get_or tables (i - 1) at.0).from = from_is tables (i - 1) at.0 within at.1 ∙ ap (λ (t : Table). t.from) (sym at.1) in
      record {
        within = within;
        begun = tick_from frame tick (from_at tables (i - 1)) (omega (arith, begun, number));
        next = λ more.
            let next_is : (i - 1) + 1 ≡ i = omega (arith, some) in
            let under : i < length tables = omega (arith, more, next_is) in
            let there = table_at tables i under in
            let other = leb-false (get_or tables i there.0).from (tick / frame) (point.1 i there.0 (omega arith) under) in
            let number_i : from_at tables i ≡ (get_or tables i there.0).from = from_is tables i there.0 under there.1 ∙ ap (λ (t : Table). t.from) (sym there.1) in
            subst (λ (n : ℕ). tick < from_at tables n * frame) (sym next_is)
            (elim (cases_lt tick (from_at tables i * frame)) [
              | inl before ↦ before
              | inr after ↦ absurd (omega (arith, from_tick frame tick (from_at tables i) are.plan.frame after, other, number_i))
            ]);
      }

-- ---- one more table
pub one_more : {A : Type 0} (xs : List A) (f : A → Stage) (tables : List Table) (t : Table) (i : ℕ) (d : A) → i < length xs → map stage_of tables ≡ map f (take i xs)
    → t.from ≡ (f (get_or xs i d)).from → t.windows.items ≡ (f (get_or xs i d)).windows → map stage_of (tables ++ t ∷ []) ≡ map f (take (i + 1) xs)
one_more {A} xs f tables t i d below so_far from windows =
    let same : stage_of t ≡ f (get_or xs i d) = ap (λ (n : ℕ). record { from = n; windows = t.windows.items }) from ∙ ap (λ (ws : List Window). record { from = (f (get_or xs i d)).from; windows = ws }) windows in
    map-append stage_of tables (t ∷ [])
    ∙ (ap (λ (ss : List Stage). ss ++ stage_of t ∷ []) so_far
    ∙ (ap (λ (s : Stage). map f (take i xs) ++ s ∷ []) same ∙ sym (map_more f xs i d below)))
