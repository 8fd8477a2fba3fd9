-- What two partitions' next turns say of their ticks.
use Rattle.std.proofs.Common.{◌≡◌, ◌≢◌, ℕ, ◌<◌, ◌≤◌, ◌==◌, ◌&&◌, true, false, min, Some, None, sym, ap, ◌∙◌, inl, inr, arith}
use Rattle.std.proofs.lemmas.Bool.{cases_lt, cases_order, and_from, and_parts, both_ways, eq-eqb, eqb-true}
use Rattle.std.proofs.lemmas.Option.{MatchOption-at_some, none-some, same_Some}
use Rattle.ptk_words_model.specs.Windows.{WindowPlan, IsPlan, IsOwn, IsFirstOwn, own_ticks}
use Rattle.ptk_words_model.proofs.OwnLaws.{end_none, window_whole}
use Rattle.ptk_words_model.proofs.NextLaws.{next_first, quiet_for_ever}
use Rattle.ptk_window.specs.declared.near.Turn.{Turn}
use Rattle.ptk_window.specs.Turn.{IsTurn}
use Rattle.ptk_impact.specs.declared.difference.Difference.{Difference}
use Rattle.ptk_impact.specs.Agreement.{Agree}
use Rattle.ptk_impact.specs.Search.{IsDifferenceFrom}

-- turns that begin and end alike are one
same_turn : (turn other : Turn) → turn.start ≡ other.start → turn.end ≡ other.end → turn ≡ other
same_turn turn other starts ends =
    let make : ℕ → ℕ → Turn = λ s e. record { start = s; end = e } in
    ap (λ (n : ℕ). make n turn.end) starts ∙ ap (λ (n : ℕ). make other.start n) ends

-- as the code compares them
pub turns_alike : (turn other : Turn) → ((turn.start == other.start) && (turn.end == other.end)) ≡ true → turn ≡ other
turns_alike turn other alike =
    let both = and_parts (turn.start == other.start) (turn.end == other.end) alike in
    same_turn turn other (eqb-true turn.start other.start both.0) (eqb-true turn.end other.end both.1)

pub turns_apart : (turn other : Turn) → ((turn.start == other.start) && (turn.end == other.end)) ≡ false → turn ≢ other
turns_apart turn other apart same =
    let starts = eq-eqb turn.start other.start (ap (λ (t : Turn). t.start) same) in
    let ends = eq-eqb turn.end other.end (ap (λ (t : Turn). t.end) same) in
    both_ways ((turn.start == other.start) && (turn.end == other.end)) apart (and_from (turn.start == other.start) (turn.end == other.end) starts ends)

-- the partition has no tick from the one up to the other
abbrev pub IsQuiet : WindowPlan → ℕ → ℕ → ℕ → Type 0
IsQuiet plan p from to = (k : ℕ) → from ≤ k → k < to → (own_ticks plan p).end_at k ≡ None

first_turn : (plan : WindowPlan) (p tick : ℕ) (turn : Turn) → IsPlan plan → IsTurn plan p tick turn → IsFirstOwn plan p tick turn.start
first_turn plan p tick turn is next =
    MatchOption-at_some ((n : ℕ) → tick ≤ n → ¬ IsOwn plan p n) (IsFirstOwn plan p tick) turn.start next.0 (next_first plan p tick is)

pub quiet_before : (plan : WindowPlan) (p tick : ℕ) (turn : Turn) → IsPlan plan → IsTurn plan p tick turn → IsQuiet plan p tick turn.start
quiet_before plan p tick turn is next k from below = end_none plan p k ((first_turn plan p tick turn is next).least k from below)

pub starts_after : (plan : WindowPlan) (p tick : ℕ) (turn : Turn) → IsPlan plan → IsTurn plan p tick turn → tick ≤ turn.start
starts_after plan p tick turn is next = (first_turn plan p tick turn is next).not_before

-- before the turn's beginning there is no end
pub no_end_here : (plan : WindowPlan) (p from tick : ℕ) (turn : Turn) → IsPlan plan → IsTurn plan p from turn → from ≤ tick → tick ≤ turn.start → turn.start ≢ tick → None ≡ (own_ticks plan p).end_at tick
no_end_here plan p from tick turn is next after before other =
    sym (quiet_before plan p from turn is next tick after
    (elim (cases_order tick turn.start) [ inl same ↦ absurd (other (sym same)) | inr (inl less) ↦ less | inr (inr more) ↦ absurd (omega (arith, more, before)) ]))

module _ (a : WindowPlan) (p : ℕ) (b : WindowPlan) (q tick : ℕ) (a_is : IsPlan a) (b_is : IsPlan b) where
  -- neither has a tick from this one on
  pub none_agree : (own_ticks a p).next_of tick ≡ None → (own_ticks b q).next_of tick ≡ None → (k : ℕ) → tick ≤ k → Agree a p b q k
  none_agree none other k from = quiet_for_ever a p tick a_is none k from ∙ sym (quiet_for_ever b q tick b_is other k from)

  -- they begin and end at one tick
  pub both_agree : (turn other : Turn) → IsTurn a p tick turn → IsTurn b q tick other → turn ≡ other → (tick < turn.end) × ((k : ℕ) → tick ≤ k → k < turn.end → Agree a p b q k)
  both_agree turn other is other_is same =
      let starts : turn.start ≡ other.start = ap (λ (t : Turn). t.start) same in
      let ends : turn.end ≡ other.end = ap (λ (t : Turn). t.end) same in
      let whole = window_whole a p turn.start turn.end a_is is.1 in
      let other_whole = window_whole b q other.start other.end b_is other_is.1 in (
        omega (arith, starts_after a p tick turn a_is is, whole.0),
        λ k from below.
            elim (cases_lt k turn.start) [
              | inl early ↦ quiet_before a p tick turn a_is is k from early ∙ sym (quiet_before b q tick other b_is other_is k from (omega (arith, early, starts)))
              | inr late ↦ whole.2 k late below ∙ (ap Some ends ∙ sym (other_whole.2 k (omega (arith, late, starts)) (omega (arith, below, ends))))
            ],
      )

  -- neither has a tick before the difference's, and its two ends are two
  differs : (difference : Difference) → tick ≤ difference.tick → IsQuiet a p tick difference.tick → IsQuiet b q tick difference.tick
      → difference.end ≡ (own_ticks a p).end_at difference.tick → difference.other_end ≡ (own_ticks b q).end_at difference.tick → difference.end ≢ difference.other_end → IsDifferenceFrom a p b q tick difference
  differs difference from quiet other_quiet end other_end ends =
      record {
        is =
            record {
              differ = λ same. ends (end ∙ (same ∙ sym other_end));
              end = end;
              other_end = other_end;
            };
        not_before = from;
        least = λ k k_from below. quiet k k_from below ∙ sym (other_quiet k k_from below);
      }

  -- the other has no tick from this one on
  pub alone_differs : (turn : Turn) → IsTurn a p tick turn → (own_ticks b q).next_of tick ≡ None → IsDifferenceFrom a p b q tick (record { tick = turn.start; end = Some turn.end; other_end = None })
  alone_differs turn is none =
      let from = starts_after a p tick turn a_is is in
      differs (record { tick = turn.start; end = Some turn.end; other_end = None }) from (quiet_before a p tick turn a_is is) (λ k k_from below. quiet_for_ever b q tick b_is none k k_from)
      (sym is.1) (sym (quiet_for_ever b q tick b_is none turn.start from)) (λ same. none-some turn.end (sym same))

  pub other_alone_differs : (other : Turn) → IsTurn b q tick other → (own_ticks a p).next_of tick ≡ None → IsDifferenceFrom a p b q tick (record { tick = other.start; end = None; other_end = Some other.end })
  other_alone_differs other is none =
      let from = starts_after b q tick other b_is is in
      differs (record { tick = other.start; end = None; other_end = Some other.end }) from (λ k k_from below. quiet_for_ever a p tick a_is none k k_from) (quiet_before b q tick other b_is is)
      (sym (quiet_for_ever a p tick a_is none other.start from)) (sym is.1) (none-some other.end)

  -- their turns are two: they begin at two ticks or end at two
  ends_apart : (turn other : Turn) → IsTurn a p tick turn → IsTurn b q tick other → turn ≢ other → (own_ticks a p).end_at (min turn.start other.start) ≢ (own_ticks b q).end_at (min turn.start other.start)
  ends_apart turn other is other_is apart same =
      elim (cases_order turn.start other.start) [
        | inl starts ↦
            let at_start : min turn.start other.start ≡ turn.start = omega (arith, starts) in
            let at_other : min turn.start other.start ≡ other.start = omega (arith, starts) in
            let ends : turn.end ≡ other.end = same_Some turn.end other.end (sym (ap (own_ticks a p).end_at at_start ∙ is.1) ∙ (same ∙ (ap (own_ticks b q).end_at at_other ∙ other_is.1))) in
            apart (same_turn turn other starts ends)
        | inr (inl before) ↦
            let at_start : min turn.start other.start ≡ turn.start = omega (arith, before) in
            let from = starts_after a p tick turn a_is is in
            none-some turn.end (sym (quiet_before b q tick other b_is other_is turn.start from before) ∙ (ap (own_ticks b q).end_at (sym at_start) ∙ (sym same ∙ (ap (own_ticks a p).end_at at_start ∙ is.1))))
        | inr (inr after) ↦
            let at_other : min turn.start other.start ≡ other.start = omega (arith, after) in
            let from = starts_after b q tick other b_is other_is in
            none-some other.end (sym (quiet_before a p tick turn a_is is other.start from after) ∙ (ap (own_ticks a p).end_at (sym at_other) ∙ (same ∙ (ap (own_ticks b q).end_at at_other ∙ other_is.1))))
      ]

  pub turns_differ : (turn other : Turn) (difference : Difference) → IsTurn a p tick turn → IsTurn b q tick other → turn ≢ other → difference.tick ≡ min turn.start other.start
      → difference.end ≡ (own_ticks a p).end_at difference.tick → difference.other_end ≡ (own_ticks b q).end_at difference.tick → IsDifferenceFrom a p b q tick difference
  turns_differ turn other difference is other_is apart at end other_end =
      differs difference (omega (arith, at, starts_after a p tick turn a_is is, starts_after b q tick other b_is other_is))
      (λ k from below. quiet_before a p tick turn a_is is k from (omega (arith, below, at)))
      (λ k from below. quiet_before b q tick other b_is other_is k from (omega (arith, below, at)))
      end other_end
      (λ same. ends_apart turn other is other_is apart (ap (own_ticks a p).end_at (sym at) ∙ (sym end ∙ (same ∙ (other_end ∙ ap (own_ticks b q).end_at at)))))
