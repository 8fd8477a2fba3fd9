-- What was found near each beginning, joined.
use Rattle.std.proofs.Common.{◌≡◌, ℕ, ◌+◌, ◌<◌, ◌≤◌, ◌↔◌, ◌⊎◌, Option, Some, None, MatchOption, refl, sym, subst, inl, inr, arith}
use Rattle.std.specs.Prelude.{IsNone, IfSome}
use Rattle.ptk_words_model.specs.Windows.{WindowPlan, IsPlan}
use Rattle.ptk_impact.specs.declared.difference.Difference.{Difference}
use Rattle.ptk_impact.specs.Agreement.{Agree, IsDifference, IsFirstDifference}
use Rattle.ptk_impact.specs.Search.{AgreeNearBegins, IsBefore, IsDifferenceFrom}
use Rattle.ptk_impact.proofs.Spreads.{spreads}

-- they agree near each beginning before a difference that comes no later
pub sooner : (staged a : WindowPlan) (p : ℕ) (b : WindowPlan) (q : ℕ) (found earlier : Option Difference) → ((k : ℕ) → IsBefore k earlier → IsBefore k found)
    → AgreeNearBegins staged a p b q found → AgreeNearBegins staged a p b q earlier
sooner staged a p b q found earlier before near begin k is from close under = near begin k is from close (before k under)

-- what the search from one beginning found
pub found_before : (a : WindowPlan) (p : ℕ) (b : WindowPlan) (q begin : ℕ) (found : Option Difference)
    → MatchOption found ((k : ℕ) → begin ≤ k → k < begin + (a.frame + b.frame) → Agree a p b q k) (IsDifferenceFrom a p b q begin)
    → (k : ℕ) → begin ≤ k → k < begin + (a.frame + b.frame) → IsBefore k found → Agree a p b q k
found_before a p b q begin None near k from close before = near k from close
found_before a p b q begin (Some difference) is k from close before = is.least k from before

pub found_is : (a : WindowPlan) (p : ℕ) (b : WindowPlan) (q begin : ℕ) (found : Option Difference)
    → MatchOption found ((k : ℕ) → begin ≤ k → k < begin + (a.frame + b.frame) → Agree a p b q k) (IsDifferenceFrom a p b q begin)
    → IfSome found (IsDifference a p b q)
found_is a p b q begin None near = tt
found_is a p b q begin (Some difference) is = is.is

-- what holds of both differences holds of that which is chosen
pub chosen_is : (P : Difference → Type 0) (found other chosen : Option Difference) → (chosen ≡ found) ⊎ (chosen ≡ other) → IfSome found P → IfSome other P → IfSome chosen P
chosen_is P found other chosen (inl same) is is_other = subst (λ (o : Option Difference). IfSome o P) (sym same) is
chosen_is P found other chosen (inr same) is is_other = subst (λ (o : Option Difference). IfSome o P) (sym same) is_other

module _ (a : WindowPlan) (p : ℕ) (b : WindowPlan) (q : ℕ) (a_is : IsPlan a) (b_is : IsPlan b) where
  -- none was found
  pub all_agree : AgreeNearBegins a a p b q None → AgreeNearBegins b a p b q None → (tick : ℕ) → Agree a p b q tick
  all_agree near other_near tick =
      spreads a p b q (tick + 1) a_is b_is (λ begin is k from close below. near begin k is from close tt) (λ begin is k from close below. other_near begin k is from close tt) tick (omega arith)

  -- that which was found is the first
  pub first_found : (difference : Difference) → IsDifference a p b q difference → AgreeNearBegins a a p b q (Some difference) → AgreeNearBegins b a p b q (Some difference) → IsFirstDifference a p b q difference
  first_found difference found near other_near =
      record {
        is = found;
        least = spreads a p b q difference.tick a_is b_is (λ begin is k from close below. near begin k is from close below) (λ begin is k from close below. other_near begin k is from close below);
      }

  -- the answer, by what was found
  pub answered : (found : Option Difference) → IfSome found (IsDifference a p b q) → AgreeNearBegins a a p b q found → AgreeNearBegins b a p b q found
      → (IsNone found ↔ ((tick : ℕ) → Agree a p b q tick)) × IfSome found (IsFirstDifference a p b q)
  answered None found near other_near = ((λ none. all_agree near other_near, λ all. refl), tt)
  answered (Some difference) found near other_near =
      ((λ none. absurd (cc), λ all. absurd (found.differ (all difference.tick))), first_found difference found near other_near)
