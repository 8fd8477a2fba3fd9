-- A run of rows goes on where the next decision is a plain step.
use Rattle.std.proofs.Common.{◌≡◌, ◌≢◌, ℕ, zero, suc, ◌+◌, ◌-◌, ◌<◌, ◌≤◌, Option, Some, ◌⊎◌, inl, inr, refl, sym, ap, subst, ◌∙◌, arith}
use Rattle.std.specs.Prelude.{unwrap_or}
use Rattle.std.proofs.lemmas.Bool.{cases_lt, false≢true}
use Rattle.std.proofs.lemmas.Option.{MatchOption-at_some}
use Rattle.ptk_words_model.specs.Windows.{WindowPlan, OwnTicks, IsOwn, IsOwnUntil, IsPlan, own_ticks}
use Rattle.ptk_words_model.proofs.OwnLaws.{end_of_window, own_apart, own_from}
use Rattle.ptk_words_model.specs.Priority.{thread_at}
use Rattle.ptk_window.specs.declared.near.Turn.{Turn}
use Rattle.ptk_kernel.specs.Kept.{Kept, limits_at, part_at}
use Rattle.ptk_kernel.specs.Rows.{HasEnded}
use Rattle.ptk_system_machine.specs.Turns.{IsComing, IsInWindow, IsPlainAt}
use Rattle.ptk_system_machine.specs.Whole.{Whole, account_at, gone_on}
use Rattle.ptk_system_machine.proofs.Ticks.{gone_start}

-- ---- one row

-- of a quiet partition whose next step is plain, steps in a row are one at least
pub plain_on : (p tick stop until n reached t : ℕ) (old new : Kept) (same : Type 0) → IsPlainAt (limits_at p old) tick (part_at p old) → (part_at p old).running ≡ Some t → tick + n ≤ reached → (n ≡ 0 → (reached ≡ tick) × (new ≡ old) × same)
    → (reached < stop → (tick < reached → reached < until) → HasEnded stop t reached (part_at p new)) → tick < stop → tick < reached
plain_on p tick stop until zero reached t old new same at runs later none ended lt =
    let still = none refl in
    let here : reached ≡ tick = still.0 in
    let number : at.t ≡ t = ap (λ (o : Option ℕ). unwrap_or o t) (sym at.quiet.running ∙ runs) in
    let in_use : thread_at (part_at p old).locks t ≡ Some at.thread = subst (λ (u : ℕ). thread_at (part_at p old).locks u ≡ Some at.thread) number at.quiet.in_use in
    let end : HasEnded stop t reached (part_at p old) = subst (λ (kept : Kept). HasEnded stop t reached (part_at p kept)) still.1 (ended (omega (arith, here, lt)) (λ less. absurd (omega (arith, here, less)))) in
    absurd (false≢true (sym (end.plain at.thread in_use) ∙ at.plain))
plain_on p tick stop until (suc n) reached t old new same at runs later none ended lt = omega (arith, later)

-- where rows began with a plain step, each later tick is after the first
pub plain_later : (ticks : OwnTicks) (p from mid to : ℕ) (old whole : Whole) → from ≤ mid → mid ≤ to → whole ≡ gone_on ticks p from (mid - from) old
    → IsPlainAt (limits_at p old.kept) from (part_at p old.kept) → (IsPlainAt (limits_at p whole.kept) mid (part_at p whole.kept) → mid < to) → from < to
plain_later ticks p from mid to old whole le on gone at plain = by (cases_lt from mid)
  where
    by : (from < mid) ⊎ (mid ≤ from) → from < to
    by (inl lt) = omega (arith, lt, on)
    by (inr back) =
        let same : from ≡ mid = omega (arith, le, back) in
        let still : old ≡ whole = gone_start ticks p from (mid - from) old (omega (arith, back)) ∙ sym gone in
        let moved : IsPlainAt (limits_at p whole.kept) from (part_at p whole.kept) = subst (λ (w : Whole). IsPlainAt (limits_at p w.kept) from (part_at p w.kept)) still at in
        let later : mid < to = plain (subst (λ (k : ℕ). IsPlainAt (limits_at p whole.kept) k (part_at p whole.kept)) same moved) in
        omega (arith, later, le)

-- ---- the turn that comes first

-- a tick with an end is the partition's own
own_at : (plan : WindowPlan) (p tick end : ℕ) → (own_ticks plan p).end_at tick ≡ Some end → IsOwn plan p tick
own_at plan p tick end e = own_from plan p tick end (MatchOption-at_some (¬ IsOwn plan p tick) (IsOwnUntil plan p tick) end e (end_of_window plan p tick))

-- the turns of two partitions never begin together, since no tick is both's
pub begins_before : (plan : WindowPlan) (p q to : ℕ) (a b : Option ℕ) (one other : Turn) → IsPlan plan → q ≢ p → one.start < to → one.start ≤ other.start
    → IsComing (own_ticks plan p) to a one → IsComing (own_ticks plan q) to b other → one.start < other.start
begins_before plan p q to a b one other is differ due le mine theirs = by (cases_lt one.start other.start)
  where
    by : (one.start < other.start) ⊎ (other.start ≤ one.start) → one.start < other.start
    by (inl lt) = lt
    by (inr back) =
        let same : other.start ≡ one.start = omega (arith, le, back) in
        let first : IsInWindow (own_ticks plan p) one.start one.end = mine.window due in
        let second : IsInWindow (own_ticks plan q) other.start other.end = theirs.window (omega (arith, due, back)) in
        let own_p : IsOwn plan p one.start = own_at plan p one.start one.end (first.ends one.start (omega arith) first.before) in
        let own_q : IsOwn plan q other.start = own_at plan q other.start other.end (second.ends other.start (omega arith) second.before) in
        absurd (own_apart plan q p one.start is differ (subst (IsOwn plan q) same own_q) own_p)

-- a run of rows goes on, where its first decision comes later or is a plain step
pub goes_on : (p tick to reached : ℕ) (turn : Turn) (whole : Whole) → tick ≤ turn.start → (turn.start < to → (account_at p whole).account.next ≡ Some turn.start) → tick < to
    → ((account_at p whole).account.next ≡ Some tick → IsPlainAt (limits_at p whole.kept) tick (part_at p whole.kept)) → turn.start ≤ reached
    → (IsPlainAt (limits_at p whole.kept) turn.start (part_at p whole.kept) → turn.start < reached) → tick < reached
goes_on p tick to reached turn whole from due before plain le on = by (cases_lt tick turn.start)
  where
    by : (tick < turn.start) ⊎ (turn.start ≤ tick) → tick < reached
    by (inl lt) = omega (arith, lt, le)
    by (inr back) =
        let same : turn.start ≡ tick = omega (arith, from, back) in
        let next : (account_at p whole).account.next ≡ Some tick = due (omega (arith, same, before)) ∙ ap Some same in
        let at : IsPlainAt (limits_at p whole.kept) turn.start (part_at p whole.kept) = subst (λ (k : ℕ). IsPlainAt (limits_at p whole.kept) k (part_at p whole.kept)) (sym same) (plain next) in
        omega (arith, on at, same)
