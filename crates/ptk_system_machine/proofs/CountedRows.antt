-- Steps of a quiet partition in a row are counted as the ticks that they take.
use Rattle.std.proofs.Common.{◌≡◌, ℕ, zero, suc, ◌+◌, ◌-◌, ◌<◌, ◌≤◌, true, List, ◌++◌, Option, Some, length, get_or, refl, sym, ap, subst, ◌∙◌, arith}
use Rattle.std.proofs.Math.ListN.{set}
use Rattle.std.proofs.lemmas.List.{set-get_or}
use Rattle.ptk_words.specs.declared.faults.Status.{Status}
use Rattle.ptk_words.specs.declared.sections.Entry.{Entry}
use Rattle.ptk_words.specs.declared.sections.Limits.{Limits}
use Rattle.ptk_words_model.specs.Windows.{OwnTicks, WindowPlan, IsPlan, own_ticks}
use Rattle.ptk_words_model.specs.State.{State}
use Rattle.ptk_words_model.specs.Run.{last_of, next_from}
use Rattle.ptk_words.specs.Faults.{is_active}
use Rattle.ptk_trace.specs.KeptSteps.{KeptSteps, with_newest}
use Rattle.ptk_kernel.specs.Decisions.{Progress, begun, decisions, entries_of}
use Rattle.ptk_kernel.specs.Rows.{HasGone, IsStillTo}
use Rattle.ptk_kernel.specs.Kept.{Kept, limits_at, part_at, put_part}
use Rattle.ptk_window.specs.declared.near.Turn.{Turn}
use Rattle.ptk_system_machine.specs.Accounts.{KeptAccount}
use Rattle.ptk_system_machine.specs.Steady.{AreSteady, states_from}
use Rattle.ptk_system_machine.specs.Turns.{IsComing, IsInWindow}
use Rattle.ptk_system_machine.specs.Whole.{Whole, IsWhole, no_account, account_at, state_at, put_state, gone_on}
use Rattle.ptk_system_machine.proofs.Decisions.{decisions_gone, led_gone, own_later}
use Rattle.ptk_system_machine.proofs.States.{account_read, still_whole}
use Rattle.ptk_system_machine.proofs.Steady.{steady_start, steady_up}
use Rattle.ptk_system_machine.proofs.Ticks.{gone_none, gone_up}

-- the trace of an account
abbrev pub trace_in : KeptAccount → KeptSteps
trace_in a = record { capacity = a.capacity; entries = a.account.trace }

-- the account with this next decision, so many more steps and this trace
abbrev pub with_row_of : Option ℕ → ℕ → KeptSteps → KeptAccount → KeptAccount
with_row_of next n trace a =
    record { account = record { next = next; steps = a.account.steps + n; lost = a.account.lost; trace = trace.entries }; capacity = trace.capacity }

same_account : (next : Option ℕ) (n : ℕ) (trace : KeptSteps) (a : KeptAccount) → next ≡ a.account.next → n ≡ 0 → trace ≡ trace_in a → with_row_of next n trace a ≡ a
same_account next n trace a e none same =
    let steps : a.account.steps + n ≡ a.account.steps = omega arith in
    let path : ◌≡◌ {A = KeptAccount} (with_row_of next n trace a) a = λ i. record { account = record { next = e i; steps = steps i; lost = a.account.lost; trace = (same i).entries }; capacity = (same i).capacity } in
    path

next_active : (ticks : OwnTicks) (status : Status) (tick : ℕ) → is_active status ≡ true → next_from ticks status tick ≡ ticks.next_of tick
next_active ticks status tick e = rw e refl

-- the account of steps with these entries
counted_account : (ticks : OwnTicks) (limits : Limits) (reached n : ℕ) (entries : List Entry) (status : Status) (next : Option ℕ) (trace : KeptSteps) (a : KeptAccount)
    → next ≡ next_from ticks status reached → a.capacity ≡ limits.trace → trace ≡ with_newest entries (trace_in a)
    → with_row_of next n trace a ≡ record a { account = record a.account { next = next_from ticks status reached; steps = a.account.steps + n; trace = last_of limits.trace (a.account.trace ++ entries) } }
counted_account ticks limits reached n entries status next trace a e kept traced =
    let path : ◌≡◌ {A = KeptAccount} (with_row_of next n trace a) (with_row_of (next_from ticks status reached) n (with_newest entries (trace_in a)) a) = λ i. with_row_of (e i) n (traced i) a in
    path ∙ ap (λ (k : ℕ). with_row_of (next_from ticks status reached) n (record { capacity = a.capacity; entries = last_of k (a.account.trace ++ entries) }) a) kept

-- a row of no step
row_of_none : (ticks : OwnTicks) (p tick : ℕ) (next : Option ℕ) (old new : Kept) (accounts : List KeptAccount) (trace : KeptSteps)
    → (get_or accounts p no_account).account.next ≡ next → new ≡ old → trace ≡ trace_in (get_or accounts p no_account)
    → record { kept = new; accounts = set accounts p (with_row_of next 0 trace (get_or accounts p no_account)) } ≡ gone_on ticks p tick 0 (record { kept = old; accounts = accounts })
row_of_none ticks p tick next old new accounts trace due moved same =
    ap (λ (kept : Kept). record { kept = kept; accounts = set accounts p (with_row_of next 0 trace (get_or accounts p no_account)) }) moved
    ∙ (ap (λ (a : KeptAccount). record { kept = old; accounts = set accounts p a }) (same_account next 0 trace (get_or accounts p no_account) (sym due) refl same)
    ∙ (ap (λ (l : List KeptAccount). record { kept = old; accounts = l }) (set-get_or accounts p no_account)
    ∙ sym (gone_none ticks p tick (record { kept = old; accounts = accounts }))))

-- what steps in a row are, from the first one's tick up to the next decision's
abbrev pub AreCounted : OwnTicks → ℕ → ℕ → ℕ → Whole → Whole → Type 0
AreCounted ticks p tick reached old new =
    (new ≡ gone_on ticks p tick (reached - tick) old) × AreSteady (part_at p old.kept) (states_from ticks (limits_at p old.kept) tick (state_at p old)) tick reached

rows_of_some : (plan : WindowPlan) (p tick end n reached t : ℕ) (next : Option ℕ) (old new : Kept) (accounts : List KeptAccount) (trace : KeptSteps)
    → IsPlan plan → IsWhole old accounts → p < length accounts → (get_or accounts p no_account).account.next ≡ Some tick → IsInWindow (own_ticks plan p) tick end → reached ≤ end → 1 ≤ n
    → next ≡ (own_ticks plan p).next_of reached → is_active (part_at p new).status ≡ true → new ≡ put_part p (part_at p new) old
    → HasGone (limits_at p old) t tick n reached (part_at p old) (part_at p new) (trace_in (get_or accounts p no_account)) trace
    → AreCounted (own_ticks plan p) p tick reached (record { kept = old; accounts = accounts }) (record { kept = new; accounts = set accounts p (with_row_of next n trace (get_or accounts p no_account)) })
rows_of_some plan p tick end n reached t next old new accounts trace plan_is is lt due window within some later active moved gone =
    let le : (decisions (limits_at p old) n (begun tick (part_at p old))).tick ≤ end = subst (λ (y : Progress). y.tick ≤ end) (sym gone.led) within in
    let made = led_gone (own_ticks plan p) (limits_at p old) tick n reached (state_at p (record { kept = old; accounts = accounts })) (part_at p new) gone.led
    (decisions_gone (own_ticks plan p) (limits_at p old) t tick end n (state_at p (record { kept = old; accounts = accounts })) (own_later plan p plan_is) window.ends window.own.next due gone.steps le some) in
    let account = counted_account (own_ticks plan p) (limits_at p old) reached n (entries_of (limits_at p old) n (begun tick (part_at p old))) (part_at p new).status next trace (get_or accounts p no_account)
    (later ∙ sym (next_active (own_ticks plan p) (part_at p new).status reached active)) (is.traces p lt) gone.traced in (
      ap (λ (kept : Kept). record { kept = kept; accounts = set accounts p (with_row_of next n trace (get_or accounts p no_account)) }) moved
          ∙ (ap (λ (a : KeptAccount). record { kept = put_part p (part_at p new) old; accounts = set accounts p a }) account
          ∙ ap (λ (s : State). put_state p s (record { kept = old; accounts = accounts })) (sym made.0)),
      made.1,
    )

rows_by : (plan : WindowPlan) (p tick stop end n reached t : ℕ) (next : Option ℕ) (old new : Kept) (accounts : List KeptAccount) (trace : KeptSteps)
    → IsPlan plan → IsWhole old accounts → p < length accounts → (get_or accounts p no_account).account.next ≡ Some tick → IsInWindow (own_ticks plan p) tick end → reached ≤ end
    → next ≡ (own_ticks plan p).next_of reached → is_active (part_at p new).status ≡ true → new ≡ put_part p (part_at p new) old
    → (n ≡ 0 → (reached ≡ tick) × (new ≡ old) × (trace ≡ trace_in (get_or accounts p no_account)))
    → HasGone (limits_at p old) t tick n reached (part_at p old) (part_at p new) (trace_in (get_or accounts p no_account)) trace
    → AreCounted (own_ticks plan p) p tick reached (record { kept = old; accounts = accounts }) (record { kept = new; accounts = set accounts p (with_row_of next n trace (get_or accounts p no_account)) })
rows_by plan p tick stop end zero reached t next old new accounts trace plan_is is lt due window within later active moved none gone =
    let same = none refl in
    let at : reached ≡ tick = same.0 in
    let from : (get_or accounts p no_account).account.next ≡ next = due ∙ (sym (window.own.next tick (omega arith) window.before) ∙ (ap (own_ticks plan p).next_of (sym same.0) ∙ sym later)) in
    let no : 0 ≡ reached - tick = omega (arith, at) in (
      row_of_none (own_ticks plan p) p tick next old new accounts trace from same.1 same.2 ∙ ap (λ (k : ℕ). gone_on (own_ticks plan p) p tick k (record { kept = old; accounts = accounts })) no,
      subst (AreSteady (part_at p old) (states_from (own_ticks plan p) (limits_at p old) tick (state_at p (record { kept = old; accounts = accounts }))) tick) (sym same.0)
          (steady_start (own_ticks plan p) (limits_at p old) tick (state_at p (record { kept = old; accounts = accounts }))),
    )
rows_by plan p tick stop end (suc m) reached t next old new accounts trace plan_is is lt due window within later active moved none gone =
    rows_of_some plan p tick end (suc m) reached t next old new accounts trace plan_is is lt due window within (omega arith) later active moved gone

-- steps in a row from an account that was read
pub rows_counted : (plan : WindowPlan) (p i tick stop end n reached t : ℕ) (next : Option ℕ) (old new : Kept) (accounts : List KeptAccount) (trace : KeptSteps) (seen account : KeptAccount)
    → IsPlan plan → IsWhole old accounts → p < length accounts → (get_or accounts p no_account).account.next ≡ Some tick → IsInWindow (own_ticks plan p) tick end → reached ≤ end
    → next ≡ (own_ticks plan p).next_of reached → is_active (part_at p new).status ≡ true → new ≡ put_part p (part_at p new) old → i ≡ p → seen ≡ get_or accounts p no_account
    → (n ≡ 0 → (reached ≡ tick) × (new ≡ old) × (trace ≡ trace_in seen))
    → HasGone (limits_at p old) t tick n reached (part_at p old) (part_at p new) (trace_in seen) trace
    → account ≡ with_row_of next n trace seen
    → AreCounted (own_ticks plan p) p tick reached (record { kept = old; accounts = accounts }) (record { kept = new; accounts = set accounts i account })
rows_counted plan p i tick stop end n reached t next old new accounts trace seen account plan_is is lt due window within later active moved place read none gone e =
    let P : KeptAccount → Type 0 = λ a. (n ≡ 0 → (reached ≡ tick) × (new ≡ old) × (trace ≡ trace_in a)) → HasGone (limits_at p old) t tick n reached (part_at p old) (part_at p new) (trace_in a) trace → account ≡ with_row_of next n trace a
    → AreCounted (own_ticks plan p) p tick reached (record { kept = old; accounts = accounts }) (record { kept = new; accounts = set accounts i account }) in
    subst P (sym read)
    (λ no made same.
    subst (λ (w : Whole). AreCounted (own_ticks plan p) p tick reached (record { kept = old; accounts = accounts }) w)
    (sym (ap (λ (j : ℕ). record { kept = new; accounts = set accounts j account }) place ∙ ap (λ (a : KeptAccount). record { kept = new; accounts = set accounts p a }) same))
    (rows_by plan p tick stop end n reached t next old new accounts trace plan_is is lt due window within later active moved no made))
    none gone e

-- steps in a row of a machine whose partition is quiet and has this turn to come
pub rows_from : (plan : WindowPlan) (p i stop to n reached t : ℕ) (turn : Turn) (next : Option ℕ) (old new : Kept) (accounts : List KeptAccount) (trace : KeptSteps) (found seen account : KeptAccount) (from : Whole)
    → IsPlan plan → record { kept = old; accounts = accounts } ≡ from → IsWhole old accounts → p < length from.accounts → IsComing (own_ticks plan p) to (account_at p from).account.next turn
    → turn.start < stop → stop ≤ to → reached ≤ turn.end → IsStillTo p turn.start stop t from.kept → (IsStillTo p turn.start stop t old → IsStillTo p reached stop t new)
    → next ≡ (own_ticks plan p).next_of reached → new ≡ put_part p (part_at p new) old → i ≡ p → seen ≡ found → found ≡ get_or accounts i found
    → (n ≡ 0 → (reached ≡ turn.start) × (new ≡ old) × (trace ≡ trace_in seen))
    → HasGone (limits_at p old) t turn.start n reached (part_at p old) (part_at p new) (trace_in seen) trace
    → account ≡ with_row_of next n trace seen
    → AreCounted (own_ticks plan p) p turn.start reached from (record { kept = new; accounts = set accounts i account })
rows_from plan p i stop to n reached t turn next old new accounts trace found seen account from plan_is at is lt coming order within end quiet still later moved place read value none gone e =
    let here : p < length accounts = subst (λ (w : Whole). p < length w.accounts) (sym at) lt in
    let before : turn.start < to = omega (arith, order, within) in
    let due : (get_or accounts p no_account).account.next ≡ Some turn.start = subst (λ (w : Whole). (account_at p w).account.next ≡ Some turn.start) (sym at) (coming.due before) in
    let active : is_active (part_at p new).status ≡ true = (still (subst (λ (w : Whole). IsStillTo p turn.start stop t w.kept) (sym at) quiet)).1.active in
    subst (λ (w : Whole). AreCounted (own_ticks plan p) p turn.start reached w (record { kept = new; accounts = set accounts i account })) at
    (rows_counted plan p i turn.start stop turn.end n reached t next old new accounts trace seen account plan_is is here due (coming.window before) end later active moved place
    (read ∙ account_read p i accounts found value place here) none gone e)

-- and up to a later tick before which the partition has no decision
pub counted_up : (ticks : OwnTicks) (p tick reached to : ℕ) (old new : Whole) → IsWhole old.kept old.accounts → p < length old.accounts → tick ≤ reached → reached ≤ to
    → ((k : ℕ) → (account_at p new).account.next ≡ Some k → to ≤ k) → AreCounted ticks p tick reached old new → AreCounted ticks p tick to old new
counted_up ticks p tick reached to old new is lt from later before counted =
    let at : reached ≡ tick + (reached - tick) = omega (arith, from) in
    let le : tick + (reached - tick) ≤ to = omega (arith, from, later) in (
      gone_up ticks p tick (reached - tick) to old new is lt le before counted.0,
      steady_up ticks p tick (reached - tick) to old new is lt le before counted.0
          (subst (AreSteady (part_at p old.kept) (states_from ticks (limits_at p old.kept) tick (state_at p old)) tick) at counted.1),
    )

-- they leave the tables and the accounts whole
pub rows_whole : (p i tick n reached t : ℕ) (next : Option ℕ) (old new : Kept) (accounts : List KeptAccount) (trace : KeptSteps) (seen account : KeptAccount)
    → IsWhole old accounts → i ≡ p → seen ≡ get_or accounts p no_account → new ≡ put_part p (part_at p new) old
    → HasGone (limits_at p old) t tick n reached (part_at p old) (part_at p new) (trace_in seen) trace
    → account ≡ with_row_of next n trace seen → IsWhole new (set accounts i account)
rows_whole p i tick n reached t next old new accounts trace seen account is place read moved gone e =
    subst (λ (j : ℕ). IsWhole new (set accounts j account)) (sym place)
    (still_whole p (part_at p new) old new accounts account is moved
    (ap (λ (a : KeptAccount). a.capacity) e ∙ (ap (λ (s : KeptSteps). s.capacity) gone.traced ∙ ap (λ (a : KeptAccount). a.capacity) read)))
