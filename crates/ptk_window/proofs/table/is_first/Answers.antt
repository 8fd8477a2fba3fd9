use Rattle.std.proofs.Common.{◌≡◌, ◌-◌, get_or, eqb-true, arith, sym, subst, ◌∙◌, inl, inr}
use Rattle.std.proofs.lemmas.Bool.{cases_order, not-false, not-true, eqb-false}
use Rattle.std.proofs.lemmas.List.{get_or_default}
use Rattle.ptk_words_model.specs.declared.window.Window.{Window}
use Rattle.ptk_window.proofs.table.is_first.Goals as goal

pub returns-else-place-eq0 : goal.returns-else-place-eq0
returns-else-place-eq0 c first =
    let ws = c.args.windows.now in
    let p = c.args.partition in
    let place = c.args.place in
    let w = c.index-windows-place.result in
    let v = c.index-windows-place-else-place-eq0.result in
    let own_w : (get_or ws place w).partition ≡ p = eqb-true (get_or ws place w).partition p (not-false _ (sym c.ne.ensures ∙ c.if-ne.false)) in
    record {
      within = omega arith;
      own = λ d. subst (λ (x : Window). x.partition ≡ p) (get_or_default ws place w d (omega arith)) own_w;
      first = λ k d before of_p.
          let own : (get_or ws place d).partition ≡ p = subst (λ (x : Window). x.partition ≡ p) (get_or_default ws place w d (omega arith)) own_w in
          let last : ¬ ((get_or ws (place - 1) d).partition ≡ p) = λ same.
          eqb-false (get_or ws (place - 1) v).partition p (not-true _ (sym c.ne-else-place-eq0.ensures ∙ first)) (subst (λ (x : Window). x.partition ≡ p) (get_or_default ws (place - 1) d v (omega arith)) same) in
          elim (cases_order k (place - 1)) [
            | inl it ↦ last (subst (λ n. (get_or ws n d).partition ≡ p) it of_p)
            | inr (inl earlier) ↦
                let low = (c.requires k (place - 1) d earlier (omega arith)).0 in
                let high = (c.requires (place - 1) place d (omega arith) (omega arith)).0 in
                last (omega (arith, low, high, own, of_p))
            | inr (inr later) ↦ absurd (omega arith)
          ];
    }
