-- What was found among the windows by their starts is what the plan says.
use Rattle.std.proofs.Common.{◌≡◌, ℕ, ◌%◌, eqb, List, get_or, Some, None, All, Contains, refl, sym, subst, ◌∙◌, inl, inr}
use Rattle.std.proofs.lemmas.Bool.{cases_eq, cond-true, cond-false, eq-eqb, ne_eqb}
use Rattle.std.proofs.lemmas.List.Sorted.{Contains-permutation, IsPermutation-sym}
use Rattle.ptk_words_model.specs.declared.window.Window.{Window}
use Rattle.ptk_words_model.specs.Windows.{Holds, WindowPlan, IsPlan, end_from, IsOwn, IsOwnUntil, own_ticks}
use Rattle.ptk_words_model.proofs.OwnLaws.{own_apart, own_from, end_one, end_none}
use Rattle.ptk_window.specs.declared.table.Table.{Table}
use Rattle.ptk_window.specs.Order.{end_of}
use Rattle.ptk_window.specs.Stages.{ArePlanned, HasTick, plan_of}
use Rattle.ptk_window.proofs.StageLaws.{ordered_at, windows_there, own_starts}

module _ (frame : ℕ) (tables : List Table) (are : ArePlanned frame tables) (i tick : ℕ) (t : Table) (has : HasTick frame tables i tick) (is : get_or tables i t ≡ t) where
  pub until : (w : Window) → Contains t.by_start.items w → Holds w (tick % frame) → IsOwnUntil (plan_of frame tables) w.partition tick (end_from frame tick w)
  until w among holds =
      let ordered = ordered_at frame tables are i t has.within is in
      let given = subst (λ (ws : List Window). Contains ws w) (sym (windows_there frame tables are i tick t has is))
      (Contains-permutation t.by_start.items t.windows.items w (IsPermutation-sym t.windows.items t.by_start.items ordered.starts) among) in
      (given.0, w, given.1, given.2, (refl, holds, refl))

  pub none_own : All (λ w. ¬ Holds w (tick % frame)) t.by_start.items → (p : ℕ) → ¬ IsOwn (plan_of frame tables) p tick
  none_own none p own =
      let held = own_starts frame tables are i p tick t has is own in
      subst (λ (w : Window). ¬ Holds w (tick % frame)) held.3 (none held.0 held.1 held.2) held.4.1

pub ends : (plan : WindowPlan) → IsPlan plan → (tick q end : ℕ) → IsOwnUntil plan q tick end → (p : ℕ) → (own_ticks plan p).end_at tick ≡ end_of p (Some (q, end))
ends plan is tick q end found p =
    elim (cases_eq q p) [
      | inl same ↦ subst (λ (k : ℕ). (own_ticks plan k).end_at tick ≡ Some end) same (end_one plan q tick end is found) ∙ sym (cond-true (eqb q p) (Some end) None (eq-eqb q p same))
      | inr differ ↦ end_none plan p tick (own_apart plan q p tick is differ (own_from plan q tick end found)) ∙ sym (cond-false (eqb q p) (Some end) None (ne_eqb q p differ))
    ]
