-- A partition whose next decision is prepared: arrivals, expiries and the choice are made, the turn is still to come.
use Rattle.std.proofs.Common.{◌≡◌, ℕ, ◌<◌, ◌≤◌, List, Some, length, sym, ap, subst, ◌∙◌}
use Rattle.std.proofs.Math.ListN.{set}
use Rattle.std.proofs.lemmas.List.{set-get_or}
use Rattle.ptk_words.specs.declared.sections.Limits.{Limits}
use Rattle.ptk_words_model.specs.Windows.{OwnTicks}
use Rattle.ptk_words_model.specs.declared.Spent.{Spent}
use Rattle.ptk_words_model.specs.State.{Part, State}
use Rattle.ptk_words_model.specs.Decision.{after_turn, after_decision, ready_at, runner_of, spent_by_decision, spent_in_turn}
use Rattle.ptk_words.specs.Faults.{is_active}
use Rattle.ptk_words_laws.specs.Quiet.{after_ticks}
use Rattle.ptk_words_laws.specs.Prepared.{prepared}
use Rattle.ptk_words_laws.proofs.PlainDecisions.{quiet_ready}
use Rattle.ptk_words_laws.proofs.PreparedTicks.{prepared_on, ready_status}
use Rattle.ptk_kernel.specs.Kept.{Kept, AreParts, limits_at, part_at, put_part}
use Rattle.ptk_kernel.specs.Rows.{IsStillTo}
use Rattle.ptk_kernel.proofs.Parted.{part_at-put, parts_put, put_part-put}
use Rattle.ptk_system_machine.specs.Accounts.{IsBehind, KeptAccount}
use Rattle.ptk_system_machine.specs.Whole.{Whole, IsWhole, no_account, account_at, state_at, put_state, gone_on}
use Rattle.ptk_system_machine.specs.Turns.{HasDecided, IsFreeFrom}
use Rattle.ptk_system_machine.proofs.States.{put_part-same, state_at-put}
use Rattle.ptk_system_machine.proofs.Ticks.{put_state-put}

-- ---- the first half

-- nothing is counted of it
pub prepared_behind : (limits : Limits) (tick : ℕ) (s : State) → IsBehind tick s → IsBehind tick (prepared limits tick s)
prepared_behind limits tick s is = record {
  steps = is.steps;
  lost = is.lost;
  active = λ due. ap is_active (ready_status limits tick s.part) ∙ is.active due;
}

-- the tables alone change
pub prepared_whole : (p tick : ℕ) (old new : Whole) → new.kept ≡ put_part p (ready_at (limits_at p old.kept) tick (part_at p old.kept)) old.kept → new.accounts ≡ old.accounts
    → new ≡ put_state p (prepared (limits_at p old.kept) tick (state_at p old)) old
prepared_whole p tick old new moved same =
    ap (λ (k : Kept). record { kept = k; accounts = new.accounts }) moved
    ∙ (ap (λ (l : List KeptAccount). record { kept = put_part p (ready_at (limits_at p old.kept) tick (part_at p old.kept)) old.kept; accounts = l }) same
    ∙ ap (λ (l : List KeptAccount). record { kept = put_part p (ready_at (limits_at p old.kept) tick (part_at p old.kept)) old.kept; accounts = l }) (sym (set-get_or old.accounts p no_account)))

-- so the state is the prepared one
pub prepared_state : (p tick : ℕ) (old new : Whole) → IsWhole old.kept old.accounts → p < length old.accounts
    → new.kept ≡ put_part p (ready_at (limits_at p old.kept) tick (part_at p old.kept)) old.kept → new.accounts ≡ old.accounts
    → state_at p new ≡ prepared (limits_at p new.kept) tick (state_at p old)
prepared_state p tick old new is lt moved same =
    ap (state_at p) (prepared_whole p tick old new moved same)
    ∙ (state_at-put p (prepared (limits_at p old.kept) tick (state_at p old)) old is lt
    ∙ ap (λ (l : Limits). prepared l tick (state_at p old)) (sym (ap (λ (k : Kept). limits_at p k) moved)))

-- what the ticks from the state before put into the prepared whole, they put into the whole before
before_put : (p tick : ℕ) (s : State) (old mid new : Whole) → p < length old.accounts
    → mid.kept ≡ put_part p (ready_at (limits_at p old.kept) tick (part_at p old.kept)) old.kept → mid.accounts ≡ old.accounts
    → new ≡ put_state p s mid → new ≡ put_state p s old
before_put p tick s old mid new lt moved same gone =
    gone ∙ (ap (put_state p s) (prepared_whole p tick old mid moved same) ∙ put_state-put p (prepared (limits_at p old.kept) tick (state_at p old)) s old lt)

-- the turn of what was prepared leads to where the ticks from the state before lead
pub turn_gone : (ticks : OwnTicks) (p tick n : ℕ) (old mid new : Whole) → p < length old.accounts
    → mid.kept ≡ put_part p (ready_at (limits_at p old.kept) tick (part_at p old.kept)) old.kept → mid.accounts ≡ old.accounts
    → new ≡ put_state p (after_ticks ticks (limits_at p mid.kept) tick n (state_at p old)) mid → new ≡ gone_on ticks p tick n old
turn_gone ticks p tick n old mid new lt moved same gone =
    before_put p tick (after_ticks ticks (limits_at p old.kept) tick n (state_at p old)) old mid new lt moved same
    (gone ∙ ap (λ (l : Limits). put_state p (after_ticks ticks l tick n (state_at p old)) mid) (ap (λ (k : Kept). limits_at p k) moved))

-- the invariant after one part changed
pub part_whole : (p : ℕ) (s : Part) (kept new : Kept) (accounts : List KeptAccount) → IsWhole kept accounts → new ≡ put_part p s kept → IsWhole new accounts
part_whole p s kept new accounts is moved =
    subst (λ (k : Kept). IsWhole k accounts) (sym moved) (record { parts = parts_put (length accounts) p s kept is.parts; limits = is.limits; traces = is.traces })

-- ---- a quiet partition

-- what is quiet is prepared
pub still_ready : (p tick stop t : ℕ) (whole : Whole) → IsStillTo p tick stop t whole.kept → tick < stop → state_at p whole ≡ prepared (limits_at p whole.kept) tick (state_at p whole)
still_ready p tick stop t whole still lt =
    ap (λ (s : Part). record { part = s; account = (account_at p whole).account }) (sym (quiet_ready (limits_at p whole.kept) tick stop t still.0 (part_at p whole.kept) still.1 lt))

-- ticks from the state that is prepared are those from the state before, where what was prepared is quiet
pub prepared_gone : (ticks : OwnTicks) (p tick end n stop t : ℕ) (old mid new : Whole) → IsWhole old.kept old.accounts → p < length old.accounts
    → (account_at p old).account.next ≡ Some tick → ticks.end_at tick ≡ Some end → 1 ≤ n
    → mid.kept ≡ put_part p (ready_at (limits_at p old.kept) tick (part_at p old.kept)) old.kept → mid.accounts ≡ old.accounts → IsStillTo p tick stop t mid.kept → tick < stop
    → new ≡ gone_on ticks p tick n mid → new ≡ gone_on ticks p tick n old
prepared_gone ticks p tick end n stop t old mid new is lt due ends some moved kept still within gone =
    let ready : mid ≡ put_state p (prepared (limits_at p old.kept) tick (state_at p old)) old = prepared_whole p tick old mid moved kept in
    let now : part_at p mid.kept ≡ ready_at (limits_at p old.kept) tick (part_at p old.kept)
    = ap (λ (w : Whole). part_at p w.kept) ready ∙ part_at-put (length old.accounts) p (ready_at (limits_at p old.kept) tick (part_at p old.kept)) old.kept is.parts lt in
    let same : ready_at (limits_at p mid.kept) tick (part_at p mid.kept) ≡ part_at p mid.kept = quiet_ready (limits_at p mid.kept) tick stop t still.0 (part_at p mid.kept) still.1 within in
    let twice : ready_at (limits_at p old.kept) tick (ready_at (limits_at p old.kept) tick (part_at p old.kept)) ≡ ready_at (limits_at p old.kept) tick (part_at p old.kept)
    = subst (λ (s : Part). ready_at (limits_at p old.kept) tick s ≡ s) now
    (subst (λ (l : Limits). ready_at l tick (part_at p mid.kept) ≡ part_at p mid.kept) (ap (λ (w : Whole). limits_at p w.kept) ready) same) in
    gone
    ∙ (ap (λ (w : Whole). gone_on ticks p tick n w) ready
    ∙ (ap (λ (u : State). put_state p (after_ticks ticks (limits_at p old.kept) tick n u) (put_state p (prepared (limits_at p old.kept) tick (state_at p old)) old)) (state_at-put p _ old is lt)
    ∙ (put_state-put p _ _ old lt
    ∙ ap (λ (u : State). put_state p u old) (prepared_on ticks (limits_at p old.kept) tick end n (state_at p old) twice due ends some))))

-- ---- the second half

-- the tables before the first half, by the state before it
abbrev pub kept_before : ℕ → State → Kept → Kept
kept_before p s kept = put_part p s.part kept

before_part : (n p : ℕ) (s : State) (kept : Kept) → AreParts n kept → p < n → part_at p (kept_before p s kept) ≡ s.part
before_part n p s kept parts lt = part_at-put n p s.part kept parts lt

-- what a decision from the state before spent, and what it left, by the tables before
pub told_before : (n p tick room : ℕ) (s : State) (kept : Kept) (spent : Spent) → AreParts n kept → p < n → spent ≡ spent_by_decision (limits_at p kept) tick room s.part
    → spent ≡ spent_by_decision (limits_at p (kept_before p s kept)) tick room (part_at p (kept_before p s kept))
told_before n p tick room s kept spent parts lt told = told ∙ ap (spent_by_decision (limits_at p kept) tick room) (sym (before_part n p s kept parts lt))

pub moved_before : (n p tick room : ℕ) (s : State) (kept : Kept) → AreParts n kept → p < n → part_at p kept ≡ after_decision (limits_at p kept) tick room s.part
    → kept ≡ put_part p (after_decision (limits_at p (kept_before p s kept)) tick room (part_at p (kept_before p s kept))) (kept_before p s kept)
moved_before n p tick room s kept parts lt moved =
    sym (put_part-same p kept)
    ∙ (ap (λ (u : Part). put_part p u kept) moved
    ∙ (ap (λ (u : Part). put_part p (after_decision (limits_at p kept) tick room u) kept) (sym (before_part n p s kept parts lt))
    ∙ sym (put_part-put p (after_decision (limits_at p kept) tick room (part_at p (kept_before p s kept))) s.part kept)))

-- the ticks from the state before, seen from the prepared one
pub gone_before : (ticks : OwnTicks) (p tick n : ℕ) (s : State) (kept : Kept) (accounts : List KeptAccount) (new : Whole) → IsWhole kept accounts → p < length accounts
    → (account_at p (record { kept = kept; accounts = accounts })).account ≡ s.account
    → new ≡ gone_on ticks p tick n (record { kept = kept_before p s kept; accounts = accounts })
    → new ≡ put_state p (after_ticks ticks (limits_at p kept) tick n s) (record { kept = kept; accounts = accounts })
gone_before ticks p tick n s kept accounts new is lt account gone =
    let here : ◌≡◌ {A = State} (state_at p (record { kept = kept_before p s kept; accounts = accounts })) s
    = λ i. record { part = before_part (length accounts) p s kept is.parts lt i; account = account i } in
    gone
    ∙ (ap (λ (u : State). put_state p (after_ticks ticks (limits_at p kept) tick n u) (record { kept = kept_before p s kept; accounts = accounts })) here
    ∙ ap (λ (k : Kept). record { kept = k; accounts = set accounts p (record (account_at p (record { kept = kept; accounts = accounts })) { account = (after_ticks ticks (limits_at p kept) tick n s).account }) })
    (put_part-put p (after_ticks ticks (limits_at p kept) tick n s).part s.part kept))

-- the turn of what is prepared is the decision from the state before
turn_decided : (n p tick room : ℕ) (s : State) (kept new : Kept) (spent : Spent) → AreParts n kept → p < n → part_at p kept ≡ ready_at (limits_at p kept) tick s.part
    → spent ≡ spent_in_turn (limits_at p kept) tick room (runner_of (part_at p kept)) (part_at p kept)
    → new ≡ put_part p (after_turn (limits_at p kept) tick room (runner_of (part_at p kept)) (part_at p kept)) kept
    → HasDecided (limits_at p new) tick room spent s.part (part_at p new)
turn_decided n p tick room s kept new spent parts lt ready told moved =
    let same : limits_at p kept ≡ limits_at p new = sym (ap (λ (k : Kept). limits_at p k) moved) in
    record {
      told = told ∙ (ap (λ (u : Part). spent_in_turn (limits_at p kept) tick room (runner_of u) u) ready ∙ ap (λ (l : Limits). spent_by_decision l tick room s.part) same);
      moved =
          ap (part_at p) moved
          ∙ (part_at-put n p (after_turn (limits_at p kept) tick room (runner_of (part_at p kept)) (part_at p kept)) kept parts lt
          ∙ (ap (λ (u : Part). after_turn (limits_at p kept) tick room (runner_of u) u) ready
          ∙ ap (λ (l : Limits). after_decision l tick room s.part) same));
    }

-- so what is put into the tables after the turn, by what such a decision leads to, is put into those before it
pub turn_ended : (ticks : OwnTicks) (p tick room n to from : ℕ) (s : State) (kept mid : Kept) (accounts : List KeptAccount) (new : Whole) (spent : Spent) → IsWhole kept accounts → p < length accounts
    → state_at p (record { kept = kept; accounts = accounts }) ≡ prepared (limits_at p kept) tick s
    → spent ≡ spent_in_turn (limits_at p kept) tick room (runner_of (part_at p kept)) (part_at p kept)
    → mid ≡ put_part p (after_turn (limits_at p kept) tick room (runner_of (part_at p kept)) (part_at p kept)) kept
    → IsFreeFrom tick room spent to (part_at p mid) from
    → ((account_at p (record { kept = mid; accounts = accounts })).account ≡ s.account → HasDecided (limits_at p mid) tick room spent s.part (part_at p mid) → IsFreeFrom tick room spent to (part_at p mid) from
    → new ≡ put_state p (after_ticks ticks (limits_at p mid) tick n s) (record { kept = mid; accounts = accounts }))
    → new ≡ put_state p (after_ticks ticks (limits_at p kept) tick n s) (record { kept = kept; accounts = accounts })
turn_ended ticks p tick room n to from s kept mid accounts new spent is lt ready told moved free gone =
    gone (ap (λ (u : State). u.account) ready) (turn_decided (length accounts) p tick room s kept mid spent is.parts lt (ap (λ (u : State). u.part) ready) told moved) free
    ∙ (ap (λ (l : Limits). put_state p (after_ticks ticks l tick n s) (record { kept = mid; accounts = accounts })) (ap (λ (k : Kept). limits_at p k) moved)
    ∙ ap (λ (k : Kept). record { kept = k; accounts = set accounts p (record (account_at p (record { kept = kept; accounts = accounts })) { account = (after_ticks ticks (limits_at p kept) tick n s).account }) })
    (ap (put_part p (after_ticks ticks (limits_at p kept) tick n s).part) moved ∙ put_part-put p (after_ticks ticks (limits_at p kept) tick n s).part (after_turn (limits_at p kept) tick room (runner_of (part_at p kept)) (part_at p kept)) kept))
