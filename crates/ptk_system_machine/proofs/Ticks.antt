-- What ticks of one partition are to it and to each.
use Rattle.std.proofs.Common.{◌≡◌, ℕ, zero, suc, ◌+◌, ◌-◌, ◌<◌, ◌≤◌, Bool, true, false, ◌==◌, length, get_or, Option, Some, None, ◌⊎◌, inl, inr, refl, sym, ap, subst, ◌∙◌, eqb-true, eq-eqb, arith}
use Rattle.std.proofs.Math.ListN.{set}
use Rattle.std.proofs.lemmas.List.{set-set, get_or-set_same, length-set}
use Rattle.ptk_words.specs.declared.sections.Limits.{Limits}
use Rattle.ptk_words_model.specs.Windows.{WindowPlan, OwnTicks, IsPlan, own_ticks}
use Rattle.ptk_words_model.proofs.OwnLaws.{window_whole}
use Rattle.std.proofs.lemmas.Bool.{cases_lt}
use Rattle.ptk_words_model.specs.declared.Spent.{Spent}
use Rattle.ptk_words_model.specs.declared.Spent.TheVariants.{Idle}
use Rattle.ptk_words_model.specs.State.{State}
use Rattle.ptk_words_model.specs.Decision.{after_decision, spent_by_decision}
use Rattle.ptk_words_model.specs.Run.{after_tick, after_tick_until, decided, is_at, next_from}
use Rattle.ptk_words_laws.specs.Quiet.{after_ticks}
use Rattle.ptk_words_laws.specs.Idle.{IsIdle, waiting_from}
use Rattle.ptk_words_laws.proofs.IdleTicks.{idle_ticks}
use Rattle.ptk_words_laws.proofs.TicksInARow.{join, window_own, idle_tick}
use Rattle.ptk_kernel.specs.Kept.{Kept, limits_at, part_at, put_part}
use Rattle.ptk_kernel.proofs.Parted.{put_part-put}
use Rattle.ptk_system_machine.specs.Accounts.{KeptAccount, IsBehind, duration_of}
use Rattle.ptk_system_machine.specs.Turns.{IsFreeFrom, IsInWindow}
use Rattle.ptk_system_machine.specs.Whole.{Whole, IsWhole, no_account, account_at, state_at, put_state, gone_on}
use Rattle.ptk_system_machine.proofs.States.{accounted_next, state_at-put, put_state-same}
use Rattle.ptk_system_machine.proofs.Behind.{behind_on}

-- ---- ticks at which nothing is due

-- over ticks at which no decision is due the state stays
pub still_on : (ticks : OwnTicks) (limits : Limits) (tick n : ℕ) (s : State) → ((k : ℕ) → tick ≤ k → k < tick + n → is_at k s.account.next ≡ false) → after_ticks ticks limits tick n s ≡ s
unfolding after_ticks
still_on ticks limits tick zero s none = refl
still_on ticks limits tick (suc n) s none =
    ap (after_tick ticks limits (tick + n)) (still_on ticks limits tick n s (λ k le lt. none k le (omega (arith, lt))))
    ∙ idle_tick ticks limits (tick + n) (ticks.end_at (tick + n)) s (none (tick + n) (omega arith) (omega arith))

never_tick : (ticks : OwnTicks) (limits : Limits) (tick : ℕ) (s : State) → (s.account.next ≡ Some tick → ticks.end_at tick ≡ None) → after_tick ticks limits tick s ≡ s
never_tick ticks limits tick s other = by s.account.next refl
  where
    by : (o : Option ℕ) → s.account.next ≡ o → after_tick ticks limits tick s ≡ s
    by None e = idle_tick ticks limits tick (ticks.end_at tick) s (ap (is_at tick) e)
    by (Some n) e = at (n == tick) refl
      where
        at : (b : Bool) → (n == tick) ≡ b → after_tick ticks limits tick s ≡ s
        at false not = idle_tick ticks limits tick (ticks.end_at tick) s (ap (is_at tick) e ∙ not)
        at true is = ap (λ (end : Option ℕ). after_tick_until end ticks limits tick s) (other (e ∙ ap Some (eqb-true n tick is)))

-- over ticks at none of which a decision takes place the state stays
pub still_never : (ticks : OwnTicks) (limits : Limits) (tick n : ℕ) (s : State) → ((k : ℕ) → tick ≤ k → k < tick + n → s.account.next ≡ Some k → ticks.end_at k ≡ None) → after_ticks ticks limits tick n s ≡ s
unfolding after_ticks
still_never ticks limits tick zero s none = refl
still_never ticks limits tick (suc n) s none =
    ap (after_tick ticks limits (tick + n)) (still_never ticks limits tick n s (λ k le lt. none k le (omega (arith, lt))))
    ∙ never_tick ticks limits (tick + n) s (none (tick + n) (omega arith) (omega arith))

-- no decision is due before the next one
pub not_due : (o : Option ℕ) (from to k : ℕ) → ((j : ℕ) → o ≡ Some j → from ≤ j → to ≤ j) → from ≤ k → k < to → is_at k o ≡ false
not_due None from to k later le lt = refl
not_due (Some j) from to k later le lt = by (j == k) refl
  where
    by : (b : Bool) → (j == k) ≡ b → (j == k) ≡ false
    by false e = e
    by true e = let same : j ≡ k = eqb-true j k e in absurd (omega (arith, later j refl))

-- ---- ticks of one partition

pub put_state-put : (p : ℕ) (s t : State) (whole : Whole) → p < length whole.accounts → put_state p t (put_state p s whole) ≡ put_state p t whole
put_state-put p s t whole lt =
    let a : KeptAccount = record (account_at p whole) { account = s.account } in
    let read : get_or (set whole.accounts p a) p no_account ≡ a = get_or-set_same whole.accounts p a no_account lt in
    ap (λ (kept : Kept). record { kept = kept; accounts = set (set whole.accounts p a) p (record (get_or (set whole.accounts p a) p no_account) { account = t.account }) }) (put_part-put p t.part s.part whole.kept)
    ∙ (ap (λ (b : KeptAccount). record { kept = put_part p t.part whole.kept; accounts = set (set whole.accounts p a) p (record b { account = t.account }) }) read
    ∙ ap (λ accounts. record { kept = put_part p t.part whole.kept; accounts = accounts }) (set-set whole.accounts p a (record (account_at p whole) { account = t.account })))

-- no tick changes nothing
pub gone_none : (ticks : OwnTicks) (p tick : ℕ) (whole : Whole) → gone_on ticks p tick 0 whole ≡ whole
unfolding after_ticks
gone_none ticks p tick whole = put_state-same p whole

pub gone_join : (ticks : OwnTicks) (p tick n m : ℕ) (whole : Whole) → IsWhole whole.kept whole.accounts → p < length whole.accounts
    → gone_on ticks p (tick + n) m (gone_on ticks p tick n whole) ≡ gone_on ticks p tick (n + m) whole
gone_join ticks p tick n m whole is lt =
    let limits : Limits = limits_at p whole.kept in
    let s : State = after_ticks ticks (limits_at p whole.kept) tick n (state_at p whole) in
    ap (λ (u : State). put_state p (after_ticks ticks (limits_at p whole.kept) (tick + n) m u) (put_state p (after_ticks ticks (limits_at p whole.kept) tick n (state_at p whole)) whole)) (state_at-put p _ whole is lt)
    ∙ (put_state-put p _ _ whole lt
    ∙ ap (λ (u : State). put_state p u whole) (sym (join ticks (limits_at p whole.kept) tick n m (state_at p whole))))

-- ticks up to one, and then up to a later one
pub gone_further : (ticks : OwnTicks) (p tick a b : ℕ) (old mid new : Whole) → IsWhole old.kept old.accounts → p < length old.accounts → tick ≤ a → a ≤ b
    → mid ≡ gone_on ticks p tick (a - tick) old → new ≡ gone_on ticks p a (b - a) mid → new ≡ gone_on ticks p tick (b - tick) old
gone_further ticks p tick a b old mid new is lt le later first then =
    let at : a ≡ tick + (a - tick) = omega arith in
    let all : a - tick + (b - a) ≡ b - tick = omega arith in
    then
    ∙ (ap (gone_on ticks p a (b - a)) first
    ∙ (ap (λ (k : ℕ). gone_on ticks p k (b - a) (gone_on ticks p tick (a - tick) old)) at
    ∙ (gone_join ticks p tick (a - tick) (b - a) old is lt
    ∙ ap (λ (k : ℕ). gone_on ticks p tick k old) all)))

-- no ticks
pub gone_start : (ticks : OwnTicks) (p tick n : ℕ) (whole : Whole) → n ≡ 0 → whole ≡ gone_on ticks p tick n whole
gone_start ticks p tick n whole none = sym (ap (λ (k : ℕ). gone_on ticks p tick k whole) none ∙ gone_none ticks p tick whole)

-- over ticks at which it decides nothing, all stays
pub gone_still : (ticks : OwnTicks) (p from to : ℕ) (whole : Whole) → ((j : ℕ) → (account_at p whole).account.next ≡ Some j → from ≤ j → to ≤ j) → from ≤ to → whole ≡ gone_on ticks p from (to - from) whole
gone_still ticks p from to whole later le =
    sym (ap (λ (s : State). put_state p s whole)
    (still_on ticks (limits_at p whole.kept) from (to - from) (state_at p whole) (λ k a b. not_due (account_at p whole).account.next from to k later a (omega (arith, b, le)))) ∙ put_state-same p whole)

-- so many ticks, and then over ticks at which it decides nothing
pub gone_up : (ticks : OwnTicks) (p tick n to : ℕ) (old new : Whole) → IsWhole old.kept old.accounts → p < length old.accounts → tick + n ≤ to → ((k : ℕ) → (account_at p new).account.next ≡ Some k → to ≤ k)
    → new ≡ gone_on ticks p tick n old → new ≡ gone_on ticks p tick (to - tick) old
gone_up ticks p tick n to old new is lt le before gone =
    let same : n ≡ tick + n - tick = omega arith in
    gone_further ticks p tick (tick + n) to old new new is lt (omega arith) le
    (gone ∙ ap (λ (k : ℕ). gone_on ticks p tick k old) same)
    (gone_still ticks p (tick + n) to new (λ k at from. before k at) le)

-- no account comes or goes
pub gone_parts : (ticks : OwnTicks) (p tick n : ℕ) (old new : Whole) → new ≡ gone_on ticks p tick n old → length new.accounts ≡ length old.accounts
gone_parts ticks p tick n old new gone = ap (λ (w : Whole). length w.accounts) gone ∙ length-set old.accounts p (record (account_at p old) { account = (after_ticks ticks (limits_at p old.kept) tick n (state_at p old)).account })

-- a decision is one tick
pub decided_tick : (ticks : OwnTicks) (limits : Limits) (tick end : ℕ) (s : State) → ticks.end_at tick ≡ Some end → is_at tick s.account.next ≡ true → after_ticks ticks limits tick 1 s ≡ decided ticks limits tick (end - tick) s
unfolding after_ticks
decided_tick ticks limits tick end s ends due =
    let at : tick + 0 ≡ tick = omega arith in
    ap (λ (k : ℕ). after_tick ticks limits k s) at ∙ by tick ends due
  where
    by : (k : ℕ) → ticks.end_at k ≡ Some end → is_at k s.account.next ≡ true → after_tick ticks limits k s ≡ decided ticks limits k (end - k) s
    by k e d = rw (e, d) refl

pub is_due : (tick : ℕ) (o : Option ℕ) → o ≡ Some tick → is_at tick o ≡ true
is_due tick o e = rw e (eq-eqb tick tick refl)

-- ---- windows

pub in_window : (plan : WindowPlan) (p tick end : ℕ) → IsPlan plan → plan.frame ≤ 1000000 → (own_ticks plan p).end_at tick ≡ Some end → IsInWindow (own_ticks plan p) tick end
in_window plan p tick end is frame ends =
    let whole = window_whole plan p tick end is ends in
    let near : end ≤ tick + plan.frame = whole.1 in
    record {
      before = whole.0;
      own = window_own plan p tick end is ends;
      ends = whole.2;
      near = omega arith;
    }

-- ---- a decision

-- where a decision's next one comes behind the ticks that it takes up, that one is its own
waiting_decided : (ticks : OwnTicks) (limits : Limits) (tick room from : ℕ) (s : State) → from ≡ tick + duration_of room (spent_by_decision limits tick room s.part)
    → waiting_from ticks from (decided ticks limits tick room s) ≡ decided ticks limits tick room s
waiting_decided ticks limits tick room from s at =
    let next : next_from ticks (after_decision limits tick room s.part).status from ≡ (decided ticks limits tick room s).account.next
    = ap (next_from ticks (after_decision limits tick room s.part).status) at
    ∙ sym (accounted_next ticks limits tick room (after_decision limits tick room s.part) (spent_by_decision limits tick room s.part) s.account) in
    ap (λ (o : Option ℕ). record (decided ticks limits tick room s) { account = record (decided ticks limits tick room s).account { next = o } }) next

-- an idle decision, and then ticks up to which the partition has nothing to do
idle_on : (plan : WindowPlan) (p : ℕ) (limits : Limits) (tick end from : ℕ) (s : State) → IsPlan plan → (own_ticks plan p).end_at tick ≡ Some end → s.account.next ≡ Some tick → tick + 1 ≤ from
    → spent_by_decision limits tick (end - tick) s.part ≡ Idle → IsIdle from (after_decision limits tick (end - tick) s.part)
    → after_ticks (own_ticks plan p) limits tick (from - tick) s ≡ waiting_from (own_ticks plan p) from (decided (own_ticks plan p) limits tick (end - tick) s)
idle_on plan p limits tick end from s is ends due le spent idle =
    let all : from - tick ≡ 1 + (from - (tick + 1)) = omega arith in
    let last : tick + 1 + (from - (tick + 1)) ≡ from = omega arith in
    let next : (decided (own_ticks plan p) limits tick (end - tick) s).account.next ≡ next_from (own_ticks plan p) (after_decision limits tick (end - tick) s.part).status (tick + 1)
    = accounted_next (own_ticks plan p) limits tick (end - tick) (after_decision limits tick (end - tick) s.part) (spent_by_decision limits tick (end - tick) s.part) s.account
    ∙ ap (λ (spent : Spent). next_from (own_ticks plan p) (after_decision limits tick (end - tick) s.part).status (tick + duration_of (end - tick) spent)) spent in
    ap (λ (n : ℕ). after_ticks (own_ticks plan p) limits tick n s) all
    ∙ (join (own_ticks plan p) limits tick 1 (from - (tick + 1)) s
    ∙ (ap (after_ticks (own_ticks plan p) limits (tick + 1) (from - (tick + 1))) (decided_tick (own_ticks plan p) limits tick end s ends (is_due tick s.account.next due))
    ∙ (idle_ticks plan p limits (tick + 1) from (from - (tick + 1)) (decided (own_ticks plan p) limits tick (end - tick) s) is idle next (omega arith)
    ∙ ap (λ (k : ℕ). waiting_from (own_ticks plan p) k (decided (own_ticks plan p) limits tick (end - tick) s)) last)))

-- a decision, and then ticks up to the next one
pub decided_on : (plan : WindowPlan) (p tick end room from to last : ℕ) (old new : Whole) → IsPlan plan → IsWhole old.kept old.accounts → p < length old.accounts → (own_ticks plan p).end_at tick ≡ Some end → room ≡ end - tick
    → 1 ≤ duration_of room (spent_by_decision (limits_at p old.kept) tick room (part_at p old.kept))
    → (account_at p old).account.next ≡ Some tick → tick < to → (from ≤ last → from ≤ to) → ((k : ℕ) → (account_at p new).account.next ≡ Some k → to ≤ k)
    → IsFreeFrom tick room (spent_by_decision (limits_at p old.kept) tick room (part_at p old.kept)) last (after_decision (limits_at p old.kept) tick room (part_at p old.kept)) from
    → new ≡ put_state p (waiting_from (own_ticks plan p) from (decided (own_ticks plan p) (limits_at p old.kept) tick room (state_at p old))) old → new ≡ gone_on (own_ticks plan p) p tick (to - tick) old
decided_on plan p tick end room from to last old new is whole lt ends room_is some due later far before free decision = by (cases_lt (tick + duration_of room (spent_by_decision (limits_at p old.kept) tick room (part_at p old.kept))) from)
  where
    behind : tick + duration_of room (spent_by_decision (limits_at p old.kept) tick room (part_at p old.kept)) ≤ from
    behind = free.behind

    by : (tick + duration_of room (spent_by_decision (limits_at p old.kept) tick room (part_at p old.kept)) < from) ⊎ (from ≤ tick + duration_of room (spent_by_decision (limits_at p old.kept) tick room (part_at p old.kept)))
        → new ≡ gone_on (own_ticks plan p) p tick (to - tick) old
    by (inl less) =
        let idle = free.idle less in
        let way : after_ticks (own_ticks plan p) (limits_at p old.kept) tick (from - tick) (state_at p old) ≡ waiting_from (own_ticks plan p) from (decided (own_ticks plan p) (limits_at p old.kept) tick room (state_at p old))
        = subst (λ (k : ℕ). spent_by_decision (limits_at p old.kept) tick k (part_at p old.kept) ≡ Idle → IsIdle from (after_decision (limits_at p old.kept) tick k (part_at p old.kept))
        → after_ticks (own_ticks plan p) (limits_at p old.kept) tick (from - tick) (state_at p old) ≡ waiting_from (own_ticks plan p) from (decided (own_ticks plan p) (limits_at p old.kept) tick k (state_at p old))) (sym room_is)
        (idle_on plan p (limits_at p old.kept) tick end from (state_at p old) is ends due (omega (arith, less, some))) idle.0 idle.2 in
        gone_further (own_ticks plan p) p tick from to old new new whole lt (omega (arith, less, some)) (far idle.1)
        (decision ∙ ap (λ (u : State). put_state p u old) (sym way))
        (gone_still (own_ticks plan p) p from to new (λ k at le. before k at) (far idle.1))
    by (inr past) =
        let at : from ≡ tick + duration_of room (spent_by_decision (limits_at p old.kept) tick room (part_at p old.kept)) = omega (arith, behind, past) in
        let one : 1 ≡ tick + 1 - tick = omega arith in
        let way : after_ticks (own_ticks plan p) (limits_at p old.kept) tick 1 (state_at p old) ≡ decided (own_ticks plan p) (limits_at p old.kept) tick room (state_at p old)
        = decided_tick (own_ticks plan p) (limits_at p old.kept) tick end (state_at p old) ends (is_due tick (account_at p old).account.next due)
        ∙ ap (λ (k : ℕ). decided (own_ticks plan p) (limits_at p old.kept) tick k (state_at p old)) (sym room_is) in
        gone_further (own_ticks plan p) p tick (tick + 1) to old new new whole lt (omega arith) (omega arith)
        (decision
        ∙ (ap (λ (u : State). put_state p u old) (waiting_decided (own_ticks plan p) (limits_at p old.kept) tick room from (state_at p old) at ∙ sym way)
        ∙ ap (λ (k : ℕ). gone_on (own_ticks plan p) p tick k old) one))
        (gone_still (own_ticks plan p) p (tick + 1) to new (λ k at le. before k at) (omega arith))

-- so many ticks more are behind a partition
pub behind_to : (plan : WindowPlan) (p : ℕ) (limits : Limits) (tick to : ℕ) (s new : State) → IsPlan plan → plan.frame ≤ 1000000 → tick ≤ to → new ≡ after_ticks (own_ticks plan p) limits tick (to - tick) s
    → IsBehind tick s → IsBehind to new
behind_to plan p limits tick to s new is frame le gone behind =
    let at : tick + (to - tick) ≡ to = omega arith in
    subst (IsBehind to) (sym gone)
    (subst (λ (k : ℕ). IsBehind k (after_ticks (own_ticks plan p) limits tick (to - tick) s)) at
    (behind_on (own_ticks plan p) limits tick (to - tick) s
    (λ k end from below ends. let near : end ≤ k + plan.frame = (window_whole plan p k end is ends).1 in omega arith) behind))

-- so many ticks of it are behind the partition
pub gone_behind : (plan : WindowPlan) (p tick to : ℕ) (old new : Whole) → IsPlan plan → plan.frame ≤ 1000000 → IsWhole old.kept old.accounts → p < length old.accounts → tick ≤ to
    → new ≡ gone_on (own_ticks plan p) p tick (to - tick) old → IsBehind tick (state_at p old) → IsBehind to (state_at p new)
gone_behind plan p tick to old new is frame whole lt le gone behind =
    behind_to plan p (limits_at p old.kept) tick to (state_at p old) (state_at p new) is frame le (ap (state_at p) gone ∙ state_at-put p _ old whole lt) behind
