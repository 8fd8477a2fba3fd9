-- What one partition's state is after another was put.
use Rattle.std.proofs.Common.{◌≡◌, ◌≢◌, ℕ, ◌<◌, ◌+◌, List, Option, length, get_or, Bool, true, false, ◌==◌, eqb-true, eq-eqb, refl, sym, ap, subst, ◌∙◌, arith}
use Rattle.std.proofs.lemmas.Bool.{false≢true}
use Rattle.std.proofs.Math.ListN.{set}
use Rattle.std.proofs.lemmas.List.{set-get_or, get_or-set_same, get_or-set_other, get_or_read, length-set}
use Rattle.ptk_words.specs.declared.sections.Entry.{Entry}
use Rattle.ptk_words.specs.declared.sections.Limits.{Limits}
use Rattle.ptk_words_model.specs.Windows.{OwnTicks}
use Rattle.ptk_words_model.specs.declared.Spent.{Spent}
use Rattle.ptk_words_model.specs.declared.Spent.TheVariants.{Step, Idle, Lost}
use Rattle.ptk_words_model.specs.State.{Part, Account, State}
use Rattle.ptk_words_model.specs.Run.{accounted, decided, next_from}
use Rattle.ptk_words_model.specs.Decision.{after_decision, spent_by_decision}
use Rattle.ptk_words_laws.specs.Idle.{waiting_from}
use Rattle.ptk_kernel.specs.Kept.{Kept, AreParts, limits_at, part_at, put_part}
use Rattle.ptk_kernel.proofs.Parted.{part_at-put, part_at-other, parts_put}
use Rattle.ptk_system_machine.specs.Accounts.{KeptAccount, duration_of, spent_account}
use Rattle.ptk_system_machine.specs.Turns.{IsFreeFrom}
use Rattle.ptk_system_machine.specs.Whole.{Whole, IsWhole, no_account, account_at, state_at, put_state}

pub state_at-put : (p : ℕ) (state : State) (whole : Whole) → IsWhole whole.kept whole.accounts → p < length whole.accounts → state_at p (put_state p state whole) ≡ state
state_at-put p state whole is lt =
    rw (part_at-put (length whole.accounts) p state.part whole.kept is.parts lt, get_or-set_same whole.accounts p (record (account_at p whole) { account = state.account }) no_account lt) refl

pub state_at-other : (p q : ℕ) (state : State) (whole : Whole) → q ≢ p → state_at q (put_state p state whole) ≡ state_at q whole
state_at-other p q state whole differ =
    rw (part_at-other p q state.part whole.kept differ, get_or-set_other whole.accounts p q (record (account_at p whole) { account = state.account }) no_account differ) refl

pub put_part-same : (p : ℕ) (kept : Kept) → put_part p (part_at p kept) kept ≡ kept
put_part-same p kept = simp set-get_or

pub put_state-same : (p : ℕ) (whole : Whole) → put_state p (state_at p whole) whole ≡ whole
put_state-same p whole = rw (put_part-same p whole.kept, set-get_or whole.accounts p no_account) refl

-- the next decision of the account after a decision
pub spent_next : (next : Option ℕ) (kept room : ℕ) (spent : Spent) (last : Option Entry) (account : Account) → (spent_account next kept room spent last account).next ≡ next
spent_next next kept room Idle last account = refl
spent_next next kept room Lost last account = refl
spent_next next kept room (Step cost) last account = refl

-- the account after a decision that came to this, with the next decision from a tick on
spent_with : (ticks : OwnTicks) (limits : Limits) (tick room from : ℕ) (part : Part) (spent : Spent) (account : Account)
    → spent_account (next_from ticks part.status from) limits.trace room spent part.last account ≡ record (accounted ticks limits tick room part spent account) { next = next_from ticks part.status from }
spent_with ticks limits tick room from part Idle account = refl
spent_with ticks limits tick room from part Lost account = refl
spent_with ticks limits tick room from part (Step cost) account = refl

-- the next decision comes behind the ticks that a decision takes up
pub accounted_next : (ticks : OwnTicks) (limits : Limits) (tick room : ℕ) (part : Part) (spent : Spent) (account : Account)
    → (accounted ticks limits tick room part spent account).next ≡ next_from ticks part.status (tick + duration_of room spent)
accounted_next ticks limits tick room part Idle account = refl
accounted_next ticks limits tick room part Lost account = refl
accounted_next ticks limits tick room part (Step cost) account = refl

spent_is : (ticks : OwnTicks) (limits : Limits) (tick room from : ℕ) (part after : Part) (spent came : Spent) (kept : ℕ) (account : Account) → part ≡ after → spent ≡ came → kept ≡ limits.trace
    → spent_account (next_from ticks part.status from) kept room spent part.last account ≡ record (accounted ticks limits tick room after came account) { next = next_from ticks after.status from }
spent_is ticks limits tick room from part after spent came kept account e told trace =
    ap (λ (k : ℕ). spent_account (next_from ticks part.status from) k room spent part.last account) trace
    ∙ (spent_with ticks limits tick room from part spent account
    ∙ (ap (λ (s : Part). record (accounted ticks limits tick room s spent account) { next = next_from ticks s.status from }) e
    ∙ ap (λ (s : Spent). record (accounted ticks limits tick room after s account) { next = next_from ticks after.status from }) told))

-- from when on a partition goes on, by what was told of its decision
pub free_told : (n p tick room to from : ℕ) (kept new : Kept) (spent : Spent) → AreParts n kept → p < n → spent ≡ spent_by_decision (limits_at p kept) tick room (part_at p kept)
    → new ≡ put_part p (after_decision (limits_at p kept) tick room (part_at p kept)) kept → IsFreeFrom tick room spent to (part_at p new) from
    → IsFreeFrom tick room (spent_by_decision (limits_at p kept) tick room (part_at p kept)) to (after_decision (limits_at p kept) tick room (part_at p kept)) from
free_told n p tick room to from kept new spent parts lt told moved free =
    let now : part_at p new ≡ after_decision (limits_at p kept) tick room (part_at p kept) = ap (part_at p) moved ∙ part_at-put n p _ kept parts lt in
    subst (λ (s : Spent). IsFreeFrom tick room s to (after_decision (limits_at p kept) tick room (part_at p kept)) from) told
    (subst (λ (s : Part). IsFreeFrom tick room spent to s from) now free)

-- from behind the ticks of a decision on it is free to go on
pub free_behind : (tick room : ℕ) (spent : Spent) (to : ℕ) (part : Part) (from : ℕ) → from ≡ tick + duration_of room spent → IsFreeFrom tick room spent to part from
free_behind tick room spent to part from at = record { behind = omega (arith, at); idle = λ later. absurd (omega (arith, at, later)) }

-- the tables and the account after a decision are the state after it, with the next decision from a tick on
pub decided_whole : (ticks : OwnTicks) (tick room from p : ℕ) (kept new : Kept) (accounts : List KeptAccount) (account : KeptAccount) (spent : Spent) (next : Option ℕ) (last : Option Entry)
    → IsWhole kept accounts → p < length accounts
    → spent ≡ spent_by_decision (limits_at p kept) tick room (part_at p kept)
    → new ≡ put_part p (after_decision (limits_at p kept) tick room (part_at p kept)) kept
    → next ≡ next_from ticks (part_at p new).status from
    → last ≡ (part_at p new).last
    → account ≡ record (get_or accounts p no_account) { account = spent_account next (get_or accounts p no_account).capacity room spent last (get_or accounts p no_account).account }
    → record { kept = new; accounts = set accounts p account }
    ≡ put_state p (waiting_from ticks from (decided ticks (limits_at p kept) tick room (state_at p (record { kept = kept; accounts = accounts })))) (record { kept = kept; accounts = accounts })
decided_whole ticks tick room from p kept new accounts account spent next last is lt told moved next_is last_is counted =
    let now : part_at p new ≡ after_decision (limits_at p kept) tick room (part_at p kept) = ap (part_at p) moved ∙ part_at-put (length accounts) p _ kept is.parts lt in
    let by_law : spent_account (next_from ticks (part_at p new).status from) (get_or accounts p no_account).capacity room spent (part_at p new).last (get_or accounts p no_account).account
    ≡ (waiting_from ticks from (decided ticks (limits_at p kept) tick room (state_at p (record { kept = kept; accounts = accounts })))).account
    = spent_is ticks (limits_at p kept) tick room from (part_at p new) (after_decision (limits_at p kept) tick room (part_at p kept)) spent (spent_by_decision (limits_at p kept) tick room (part_at p kept)) (get_or accounts p no_account).capacity (get_or accounts p no_account).account now told (is.traces p lt) in
    let same : account ≡ record (get_or accounts p no_account) { account = (waiting_from ticks from (decided ticks (limits_at p kept) tick room (state_at p (record { kept = kept; accounts = accounts })))).account }
    = counted ∙ ap (λ (a : Account). record (get_or accounts p no_account) { account = a })
    (ap (λ (n : Option ℕ). spent_account n (get_or accounts p no_account).capacity room spent last (get_or accounts p no_account).account) next_is
    ∙ (ap (λ (l : Option Entry). spent_account (next_from ticks (part_at p new).status from) (get_or accounts p no_account).capacity room spent l (get_or accounts p no_account).account) last_is ∙ by_law)) in
    ap (λ (k : Kept). record { kept = k; accounts = set accounts p account }) moved
    ∙ ap (λ (a : KeptAccount). record { kept = put_part p (after_decision (limits_at p kept) tick room (part_at p kept)) kept; accounts = set accounts p a }) same

-- the account that was written is the partition's
pub account_read : (p i : ℕ) (accounts : List KeptAccount) (x : KeptAccount) → x ≡ get_or accounts i x → i ≡ p → p < length accounts → x ≡ get_or accounts p no_account
account_read p i accounts x read same lt = get_or_read accounts p x lt (subst (λ (j : ℕ). x ≡ get_or accounts j x) same read) no_account

-- the account that was written, read back
pub account_put : (p i : ℕ) (accounts : List KeptAccount) (x : KeptAccount) → i ≡ p → p < length accounts → get_or (set accounts i x) p no_account ≡ x
account_put p i accounts x same lt = ap (λ (j : ℕ). get_or (set accounts j x) p no_account) same ∙ get_or-set_same accounts p x no_account lt

trace_still : (p q : ℕ) (accounts : List KeptAccount) (account : KeptAccount) (traces : ℕ) → account.capacity ≡ (get_or accounts p no_account).capacity → (get_or accounts q no_account).capacity ≡ traces → q < length accounts
    → (get_or (set accounts p account) q no_account).capacity ≡ traces
trace_still p q accounts account traces same at lt = by (p == q) refl
  where
    by : (b : Bool) → (p == q) ≡ b → (get_or (set accounts p account) q no_account).capacity ≡ traces
    by true e =
        let is : p ≡ q = eqb-true p q e in
        let here : (get_or (set accounts p account) q no_account).capacity ≡ account.capacity = ap (λ (a : KeptAccount). a.capacity) (subst (λ (j : ℕ). get_or (set accounts j account) q no_account ≡ account) (sym is) (get_or-set_same accounts q account no_account lt)) in
        here ∙ (same ∙ (ap (λ (j : ℕ). (get_or accounts j no_account).capacity) is ∙ at))
    by false e =
        let differ : q ≢ p = λ one. false≢true (sym e ∙ eq-eqb p q (sym one)) in
        ap (λ (a : KeptAccount). a.capacity) (get_or-set_other accounts p q account no_account differ) ∙ at

-- the invariant after one account and one part changed
pub still_whole : (p : ℕ) (s : Part) (kept new : Kept) (accounts : List KeptAccount) (account : KeptAccount) → IsWhole kept accounts → new ≡ put_part p s kept → account.capacity ≡ (get_or accounts p no_account).capacity
    → IsWhole new (set accounts p account)
still_whole p s kept new accounts account is moved same =
    let count : length (set accounts p account) ≡ length accounts = length-set accounts p account in
    let parts : AreParts (length (set accounts p account)) (put_part p s kept) = subst (λ (n : ℕ). AreParts n (put_part p s kept)) (sym count) (parts_put (length accounts) p s kept is.parts) in
    subst (λ (k : Kept). IsWhole k (set accounts p account)) (sym moved) (record {
      parts = parts;
      limits = is.limits ∙ sym count;
      traces = λ q lt. let below : q < length accounts = subst (λ (n : ℕ). q < n) count lt in trace_still p q accounts account _ same (is.traces q below) below;
    })

pub ruleset same_part = (put_part-same)

pub ruleset states = (state_at-put, put_state-same, still_whole)
