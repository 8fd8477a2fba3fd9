-- What a partition counts: no more steps than ticks, and no more lost ticks than a frame for each tick.
use Rattle.std.proofs.Common.{◌≡◌, ℕ, zero, suc, ◌+◌, ◌*◌, ◌-◌, ◌<◌, ◌≤◌, Bool, true, false, Option, Some, None, refl, subst, arith}
use Rattle.std.specs.Prelude.{if◌then◌else◌, IsSome}
use Rattle.std.proofs.lemmas.Bool.{false≢true}
use Rattle.ptk_words.specs.declared.faults.Status.{Status}
use Rattle.ptk_words.specs.declared.sections.Limits.{Limits}
use Rattle.ptk_words_model.specs.Windows.{OwnTicks}
use Rattle.ptk_words_model.specs.declared.Spent.{Spent}
use Rattle.ptk_words_model.specs.declared.Spent.TheVariants.{Step, Idle, Lost}
use Rattle.ptk_words_model.specs.State.{Part, Account, State}
use Rattle.ptk_words_model.specs.Decision.{after_decision, spent_by_decision}
use Rattle.ptk_words_model.specs.Run.{next_from, accounted, decided, is_at, after_tick_until}
use Rattle.ptk_words.specs.Faults.{is_active}
use Rattle.ptk_words_laws.specs.Quiet.{after_ticks}
use Rattle.ptk_system_machine.specs.Accounts.{IsBehind}

-- a decision to come is one of a partition that is not halted
pub next_active : (ticks : OwnTicks) (status : Status) (tick : ℕ) → IsSome (next_from ticks status tick) → is_active status ≡ true
next_active ticks status tick some = by (is_active status) refl some
  where
    by : (b : Bool) → is_active status ≡ b → IsSome (if b then ticks.next_of tick else None) → is_active status ≡ true
    by true e h = e
    by false e h = absurd (false≢true h)

accounted_behind : (ticks : OwnTicks) (limits : Limits) (n room : ℕ) (part : Part) (spent : Spent) (account : Account) → room ≤ 1000000 → account.steps ≤ n → account.lost ≤ 1000000 * n
    → IsBehind (suc n) (record { part = part; account = accounted ticks limits n room part spent account })
accounted_behind ticks limits n room part Idle account near steps lost = record { steps = omega arith; lost = omega arith; active = next_active ticks part.status (n + 1) }
accounted_behind ticks limits n room part Lost account near steps lost = record { steps = omega arith; lost = omega arith; active = next_active ticks part.status (n + room) }
accounted_behind ticks limits n room part (Step cost) account near steps lost = record { steps = omega arith; lost = omega arith; active = next_active ticks part.status (n + cost) }

still_behind : (n : ℕ) (s : State) → IsBehind n s → IsBehind (suc n) s
still_behind n s is =
    let steps : s.account.steps ≤ n = is.steps in
    let lost : s.account.lost ≤ 1000000 * n = is.lost in
    record { steps = omega arith; lost = omega arith; active = is.active }

-- a later tick
pub behind_later : (n later : ℕ) (s : State) → n ≤ later → IsBehind n s → IsBehind later s
behind_later n later s le is =
    let steps : s.account.steps ≤ n = is.steps in
    let lost : s.account.lost ≤ 1000000 * n = is.lost in
    record { steps = omega (arith, steps, le); lost = omega (arith, lost, le); active = is.active }

-- one more tick
pub until_behind : (ticks : OwnTicks) (limits : Limits) (n : ℕ) (o : Option ℕ) (s : State) → ((end : ℕ) → o ≡ Some end → end ≤ n + 1000000) → IsBehind n s → IsBehind (suc n) (after_tick_until o ticks limits n s)
until_behind ticks limits n None s near is = still_behind n s is
until_behind ticks limits n (Some end) s near is = by (is_at n s.account.next)
  where
    room : end - n ≤ 1000000
    room = omega (arith, near end refl)

    by : (b : Bool) → IsBehind (suc n) (if b then decided ticks limits n (end - n) s else s)
    by true = accounted_behind ticks limits n (end - n) (after_decision limits n (end - n) s.part) (spent_by_decision limits n (end - n) s.part) s.account room is.steps is.lost
    by false = still_behind n s is

-- so many more ticks
pub behind_on : (ticks : OwnTicks) (limits : Limits) (tick n : ℕ) (s : State) → ((k end : ℕ) → tick ≤ k → k < tick + n → ticks.end_at k ≡ Some end → end ≤ k + 1000000) → IsBehind tick s
    → IsBehind (tick + n) (after_ticks ticks limits tick n s)
unfolding after_ticks
behind_on ticks limits tick zero s near is = let none : tick ≡ tick + 0 = omega arith in subst (λ (m : ℕ). IsBehind m s) none is
behind_on ticks limits tick (suc n) s near is =
    let one : suc (tick + n) ≡ tick + suc n = omega arith in
    let last : tick + n < tick + suc n = omega arith in
    let from : tick ≤ tick + n = omega arith in
    subst (λ (m : ℕ). IsBehind m (after_ticks ticks limits tick (suc n) s)) one
    (until_behind ticks limits (tick + n) (ticks.end_at (tick + n)) (after_ticks ticks limits tick n s) (λ end. near (tick + n) end from last)
    (behind_on ticks limits tick n s (λ k end le lt. near k end le (omega (arith, lt))) is))
