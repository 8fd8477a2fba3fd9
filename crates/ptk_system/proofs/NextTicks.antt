-- Two partitions with the same window ends have the same own ticks, so the same next ones.
use Rattle.std.proofs.Common.{◌≡◌, ◌≤◌, ℕ, Option, Some, None, MatchOption, sym, subst}
use Rattle.ptk_words_model.specs.Windows.{WindowPlan, IsFirstOwn, IsOwn, IsOwnUntil, IsPlan, own_ticks}
use Rattle.ptk_words_model.proofs.OwnLaws.{end_of_window, own_from}
use Rattle.ptk_words_model.proofs.NextLaws.{next_first, next_none, next_one}

-- a tick of the one is the other's
own_too : (a b : WindowPlan) (p q tick : ℕ) → (own_ticks a p).end_at tick ≡ (own_ticks b q).end_at tick → IsOwn a p tick → IsOwn b q tick
own_too a b p q tick same own = by ((own_ticks b q).end_at tick) same (end_of_window b q tick)
  where
    by : (o : Option ℕ) → (own_ticks a p).end_at tick ≡ o → MatchOption o (¬ IsOwn b q tick) (IsOwnUntil b q tick) → IsOwn b q tick
    by None none other = absurd (subst (λ (o : Option ℕ). MatchOption o (¬ IsOwn a p tick) (IsOwnUntil a p tick)) none (end_of_window a p tick) own)
    by (Some end) some until = own_from b q tick end until

first_too : (a b : WindowPlan) (p q tick n : ℕ) → ((t : ℕ) → (own_ticks a p).end_at t ≡ (own_ticks b q).end_at t) → IsFirstOwn a p tick n → IsFirstOwn b q tick n
first_too a b p q tick n ends first = record {
  own = own_too a b p q n (ends n) first.own;
  not_before = first.not_before;
  least = λ k from below own. first.least k from below (own_too b a q p k (sym (ends k)) own);
}

-- the next own tick of the one is the other's
pub same_next : (a b : WindowPlan) (p q tick : ℕ) → IsPlan a → IsPlan b → ((t : ℕ) → (own_ticks a p).end_at t ≡ (own_ticks b q).end_at t) → (own_ticks a p).next_of tick ≡ (own_ticks b q).next_of tick
same_next a b p q tick is_a is_b ends = by ((own_ticks a p).next_of tick) (next_first a p tick is_a)
  where
    by : (o : Option ℕ) → MatchOption o ((n : ℕ) → tick ≤ n → ¬ IsOwn a p n) (IsFirstOwn a p tick) → o ≡ (own_ticks b q).next_of tick
    by None none = sym (next_none b q tick is_b (λ k le own. none k le (own_too b a q p k (sym (ends k)) own)))
    by (Some n) first = sym (next_one b q tick n is_b (first_too a b p q tick n ends first))
