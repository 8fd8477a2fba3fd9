-- The partition that decides first.
use Rattle.std.proofs.Common.{◌≡◌, ◌≢◌, ℕ, ◌+◌, ◌<◌, ◌≤◌, Option, Some, None, ◌⊎◌, inl, inr, refl, sym, ap, subst, arith}
use Rattle.std.specs.Prelude.{min, MatchOption}
use Rattle.std.proofs.lemmas.Bool.{cases_lt}
use Rattle.ptk_words.specs.declared.sections.Limits.{Limits}
use Rattle.ptk_words.proofs.Options.{one_more}
use Rattle.ptk_words_model.specs.Windows.{WindowPlan, OwnTicks, IsPlan, own_ticks}
use Rattle.ptk_words_model.specs.State.{State}
use Rattle.ptk_window.specs.declared.near.Turn.{Turn}
use Rattle.ptk_kernel.specs.Kept.{limits_at}
use Rattle.ptk_system_machine.specs.declared.turns.First.{First}
use Rattle.ptk_system_machine.specs.Turns.{ComesFirst, IsInWindow, IsStillUntil, IsUpTo}
use Rattle.ptk_system_machine.specs.Whole.{Whole, account_at, state_at}
use Rattle.ptk_system_machine.proofs.Coming.{due_still, first_due, never_still}
use Rattle.ptk_system_machine.proofs.Progress.{begins_before}

-- what does not happen before a tick does not happen before an earlier one
pub still_before : (ticks : OwnTicks) (limits : Limits) (tick until earlier : ℕ) (s : State) → earlier ≤ until → IsStillUntil ticks limits tick until s → IsStillUntil ticks limits tick earlier s
still_before ticks limits tick until earlier s le still k from within = still k from (omega (arith, within, le))

-- of no partitions none decides
pub none_first : (plan : WindowPlan) (tick to : ℕ) (whole : Whole) (first : First) → first.turn ≡ record { start = to; end = to } → first.stop ≡ to → ComesFirst plan tick to 0 whole first
none_first plan tick to whole first turn stop =
    let start : first.turn.start ≡ to = ap (λ (t : Turn). t.start) turn in
    record {
      order = omega (arith, start, stop);
      within = omega (arith, stop);
      due = λ lt. absurd (omega (arith, lt, start));
      still = λ q below. absurd (omega (arith, below));
      others = λ q below differ. absurd (omega (arith, below));
    }

first_sooner : (plan : WindowPlan) (tick to i : ℕ) (whole : Whole) (first : First) (turn : Turn) → ComesFirst plan tick to i whole first
    → IsUpTo (own_ticks plan i) (limits_at i whole.kept) tick to turn (state_at i whole) (state_at i whole) → IsStillUntil (own_ticks plan i) (limits_at i whole.kept) tick turn.start (state_at i whole)
    → turn.start < first.turn.start → ComesFirst plan tick to (i + 1) whole (record { p = i; turn = turn; stop = first.turn.start })
first_sooner plan tick to i whole first turn is up still lt = record {
  order = omega (arith, lt);
  within = omega (arith, is.order, is.within);
  due = λ before. (omega arith, lt, up);
  still = one_more (λ q. IsStillUntil (own_ticks plan q) (limits_at q whole.kept) tick turn.start (state_at q whole)) i
      (λ q below. still_before (own_ticks plan q) (limits_at q whole.kept) tick first.turn.start turn.start (state_at q whole) (omega (arith, lt)) (is.still q below)) still;
  others = one_more (λ q. q ≢ i → IsStillUntil (own_ticks plan q) (limits_at q whole.kept) tick first.turn.start (state_at q whole)) i (λ q below differ. is.still q below) (λ differ. absurd (differ refl));
}

first_later : (plan : WindowPlan) (tick to i : ℕ) (whole : Whole) (first : First) (turn : Turn) → IsPlan plan → ComesFirst plan tick to i whole first
    → IsUpTo (own_ticks plan i) (limits_at i whole.kept) tick to turn (state_at i whole) (state_at i whole) → IsStillUntil (own_ticks plan i) (limits_at i whole.kept) tick turn.start (state_at i whole)
    → first.turn.start ≤ turn.start → ComesFirst plan tick to (i + 1) whole (record first { stop = min first.stop turn.start })
first_later plan tick to i whole first turn planned is up still le = record {
  order = omega (arith, is.order, le);
  within = omega (arith, is.within);
  due = λ before.
      let place : first.p < i = (is.due before).0 in
      let sooner : first.turn.start < first.stop = (is.due before).1 in
      let differ : i ≢ first.p = λ one. omega (arith, place, one) in
      let apart : first.turn.start < turn.start =
      begins_before plan first.p i to (state_at first.p whole).account.next (state_at i whole).account.next first.turn turn planned differ before le (is.due before).2.coming up.coming in (
        omega (arith, place),
        omega (arith, sooner, apart),
        (is.due before).2,
      );
  still = one_more (λ q. IsStillUntil (own_ticks plan q) (limits_at q whole.kept) tick first.turn.start (state_at q whole)) i is.still
      (still_before (own_ticks plan i) (limits_at i whole.kept) tick turn.start first.turn.start (state_at i whole) le still);
  others = one_more (λ q. q ≢ first.p → IsStillUntil (own_ticks plan q) (limits_at q whole.kept) tick (min first.stop turn.start) (state_at q whole)) i
      (λ q below differ. still_before (own_ticks plan q) (limits_at q whole.kept) tick first.stop (min first.stop turn.start) (state_at q whole) (omega arith) (is.others q below differ))
      (λ differ. still_before (own_ticks plan i) (limits_at i whole.kept) tick turn.start (min first.stop turn.start) (state_at i whole) (omega arith) still);
}

first_never : (plan : WindowPlan) (tick to i : ℕ) (whole : Whole) (first : First) → ComesFirst plan tick to i whole first → IsStillUntil (own_ticks plan i) (limits_at i whole.kept) tick to (state_at i whole)
    → ComesFirst plan tick to (i + 1) whole first
first_never plan tick to i whole first is still = record {
  order = is.order;
  within = is.within;
  due = λ before. (let place : first.p < i = (is.due before).0 in omega (arith, place), (is.due before).1, (is.due before).2);
  still = one_more (λ q. IsStillUntil (own_ticks plan q) (limits_at q whole.kept) tick first.turn.start (state_at q whole)) i is.still
      (still_before (own_ticks plan i) (limits_at i whole.kept) tick to first.turn.start (state_at i whole) (omega (arith, is.order, is.within)) still);
  others = one_more (λ q. q ≢ first.p → IsStillUntil (own_ticks plan q) (limits_at q whole.kept) tick first.stop (state_at q whole)) i is.others
      (λ differ. still_before (own_ticks plan i) (limits_at i whole.kept) tick to first.stop (state_at i whole) is.within still);
}

-- of so many partitions and one more
pub first_more : (plan : WindowPlan) (tick to i : ℕ) (whole : Whole) (first next : First) (o : Option Turn) → IsPlan plan → ComesFirst plan tick to i whole first
    → MatchOption o ((k : ℕ) → tick ≤ k → k < to → (account_at i whole).account.next ≡ Some k → (own_ticks plan i).end_at k ≡ None)
    (λ turn. (tick ≤ turn.start) × (turn.start < to) × ((account_at i whole).account.next ≡ Some turn.start) × IsInWindow (own_ticks plan i) turn.start turn.end)
    → (o ≡ None → next ≡ first) → ((turn : Turn) → o ≡ Some turn → turn.start < first.turn.start → next ≡ record { p = i; turn = turn; stop = first.turn.start })
    → ((turn : Turn) → o ≡ Some turn → first.turn.start ≤ turn.start → next ≡ record first { stop = min first.stop turn.start })
    → ComesFirst plan tick to (i + 1) whole next
first_more plan tick to i whole first next None planned is never none sooner later =
    subst (ComesFirst plan tick to (i + 1) whole) (sym (none refl))
    (first_never plan tick to i whole first is (never_still (own_ticks plan i) (limits_at i whole.kept) tick to (state_at i whole) never))
first_more plan tick to i whole first next (Some turn) planned is due none sooner later = by (cases_lt turn.start first.turn.start)
  where
    up : IsUpTo (own_ticks plan i) (limits_at i whole.kept) tick to turn (state_at i whole) (state_at i whole)
    up = first_due (own_ticks plan i) (limits_at i whole.kept) tick to turn (state_at i whole) due.0 due.1 due.2 due.3

    still : IsStillUntil (own_ticks plan i) (limits_at i whole.kept) tick turn.start (state_at i whole)
    still = due_still (own_ticks plan i) (limits_at i whole.kept) tick turn.start (state_at i whole) due.2

    by : (turn.start < first.turn.start) ⊎ (first.turn.start ≤ turn.start) → ComesFirst plan tick to (i + 1) whole next
    by (inl lt) = subst (ComesFirst plan tick to (i + 1) whole) (sym (sooner turn refl lt)) (first_sooner plan tick to i whole first turn is up still lt)
    by (inr le) = subst (ComesFirst plan tick to (i + 1) whole) (sym (later turn refl le)) (first_later plan tick to i whole first turn planned is up still le)

-- with a stop that is no later than the end of the window
pub first_within : (plan : WindowPlan) (tick to count stop : ℕ) (whole : Whole) (first : First) → ComesFirst plan tick to count whole first → first.turn.start < to → stop ≡ min first.stop first.turn.end
    → ComesFirst plan tick to count whole (record first { stop = stop })
first_within plan tick to count stop whole first is lt at =
    let sooner : first.turn.start < first.stop = (is.due lt).1 in
    let inside : first.turn.start < first.turn.end = ((is.due lt).2.coming.window lt).before in
    record {
      order = omega (arith, sooner, inside, at);
      within = omega (arith, is.within, at);
      due = λ before. ((is.due lt).0, omega (arith, sooner, inside, at), (is.due lt).2);
      still = is.still;
      others = λ q below differ. still_before (own_ticks plan q) (limits_at q whole.kept) tick first.stop stop (state_at q whole) (omega (arith, at)) (is.others q below differ);
    }

-- where no turn begins before the run's last tick
pub first_past : (plan : WindowPlan) (tick to count : ℕ) (whole : Whole) (first : First) → ComesFirst plan tick to count whole first → to ≤ first.turn.start
    → (q : ℕ) → q < count → IsStillUntil (own_ticks plan q) (limits_at q whole.kept) tick to (state_at q whole)
first_past plan tick to count whole first is past q below = still_before (own_ticks plan q) (limits_at q whole.kept) tick first.turn.start to (state_at q whole) past (is.still q below)
