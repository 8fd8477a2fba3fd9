-- Two runs whose limits differ in the trace's length alone, side by side.
use Rattle.std.proofs.Common.{◌≡◌, ℕ, zero, suc, ◌+◌, ◌-◌, ◌≤◌, Bool, true, false, cond, inl, List, [], Option, Some, None, refl, sym, ap, subst, ◌∙◌}
use Rattle.std.specs.Prelude.{option_to_list}
use Rattle.ptk_words.specs.Names.{Byte}
use Rattle.ptk_words.specs.declared.sections.Arrival.{Arrival}
use Rattle.ptk_words.specs.declared.sections.Limits.{Limits}
use Rattle.ptk_words_model.specs.Windows.{OwnTicks}
use Rattle.ptk_words_model.specs.declared.Spent.{Spent}
use Rattle.ptk_words_model.specs.declared.Spent.TheVariants.{Step, Idle, Lost}
use Rattle.ptk_words_model.specs.State.{Part, Account, State}
use Rattle.ptk_words_model.specs.Decision.{Decision, decision}
use Rattle.ptk_words_model.specs.Run.{start, last_of, accounted, decided, is_at, after_tick_until, alone}
use Rattle.ptk_impact.specs.Deeper.{with_trace_limit, but_trace}
use Rattle.ptk_impact.proofs.Tails.{last-none, last_both}
use Rattle.ptk_impact.proofs.Decided.{decision_same}

-- the accounts differ in the kept entries alone, and the shorter trace is the end of the longer one
pub record IsSameAccount (limits : Limits) (kept : ℕ) (a b : Account) : Type 0 where
  pub next : a.next ≡ b.next
  pub steps : a.steps ≡ b.steps
  pub lost : a.lost ≡ b.lost
  pub tail : kept ≤ limits.trace → a.trace ≡ last_of kept b.trace

-- the parts are the same, and the accounts but for the trace
pub record IsSameRun (limits : Limits) (kept : ℕ) (s u : State) : Type 0 where
  pub part : s.part ≡ u.part
  pub account : IsSameAccount limits kept s.account u.account

accounted_same : (ticks : OwnTicks) (limits : Limits) (kept tick room : ℕ) (part : Part) (spent : Spent) (a b : Account) → IsSameAccount limits kept a b
    → IsSameAccount limits kept (accounted ticks (with_trace_limit kept limits) tick room part spent a) (accounted ticks limits tick room part spent b)
accounted_same ticks limits kept tick room part Idle a b same = record { next = refl; steps = same.steps; lost = same.lost; tail = same.tail }
accounted_same ticks limits kept tick room part Lost a b same =
    record { next = refl; steps = same.steps; lost = ap (λ (n : ℕ). n + room) same.lost; tail = same.tail }
accounted_same ticks limits kept tick room part (Step cost) a b same =
    record {
      next = refl;
      steps = ap (λ (n : ℕ). n + 1) same.steps;
      lost = same.lost;
      tail = λ le. last_both kept limits.trace a.trace b.trace (option_to_list part.last) le (same.tail le);
    }

-- a decision on the same part
decided_on : (ticks : OwnTicks) (limits : Limits) (kept tick room : ℕ) (part : Part) (a b : Account) → IsSameAccount limits kept a b
    → IsSameRun limits kept (decided ticks (with_trace_limit kept limits) tick room (record { part = part; account = a })) (decided ticks limits tick room (record { part = part; account = b }))
decided_on ticks limits kept tick room part a b same =
    let d : Decision = decision limits tick room part in
    let one : decision (with_trace_limit kept limits) tick room part ≡ decision limits tick room part = decision_same limits.output kept limits tick room part (inl refl) in
    record {
      part = ap (λ (came : Decision). came.part) one;
      account = subst (λ (came : Decision). IsSameAccount limits kept (accounted ticks (with_trace_limit kept limits) tick room came.part came.spent a) (accounted ticks limits tick room d.part d.spent b))
          (sym one) (accounted_same ticks limits kept tick room d.part d.spent a b same);
    }

decided_same : (ticks : OwnTicks) (limits : Limits) (kept tick room : ℕ) (s u : State) → IsSameRun limits kept s u
    → IsSameRun limits kept (decided ticks (with_trace_limit kept limits) tick room s) (decided ticks limits tick room u)
decided_same ticks limits kept tick room s u same =
    subst (λ (p : Part). IsSameRun limits kept (decided ticks (with_trace_limit kept limits) tick room (record { part = p; account = s.account })) (decided ticks limits tick room u))
    (sym same.part) (decided_on ticks limits kept tick room u.part s.account u.account same.account)

either_same : (limits : Limits) (kept : ℕ) (b : Bool) (s s' u u' : State) → IsSameRun limits kept s' u' → IsSameRun limits kept s u → IsSameRun limits kept (cond b s' s) (cond b u' u)
either_same limits kept true s s' u u' one other = one
either_same limits kept false s s' u u' one other = other

until_same : (o : Option ℕ) (ticks : OwnTicks) (limits : Limits) (kept tick : ℕ) (s u : State) → IsSameRun limits kept s u
    → IsSameRun limits kept (after_tick_until o ticks (with_trace_limit kept limits) tick s) (after_tick_until o ticks limits tick u)
until_same None ticks limits kept tick s u same = same
until_same (Some end) ticks limits kept tick s u same =
    let s' : State = decided ticks (with_trace_limit kept limits) tick (end - tick) s in
    let u' : State = decided ticks limits tick (end - tick) u in
    subst (λ (next : Option ℕ). IsSameRun limits kept (cond (is_at tick next) s' s) (cond (is_at tick u.account.next) u' u)) (sym same.account.next)
    (either_same limits kept (is_at tick u.account.next) s s' u u' (decided_same ticks limits kept tick (end - tick) s u same) same)

start_same : (ticks : OwnTicks) (limits : Limits) (image : Option (List Byte)) (input : List Arrival) (kept : ℕ)
    → IsSameRun limits kept (start ticks (with_trace_limit kept limits) image input) (start ticks limits image input)
start_same ticks limits image input kept =
    record { part = refl; account = record { next = refl; steps = refl; lost = refl; tail = λ _. sym (last-none kept) } }

pub runs_same : (ticks : OwnTicks) (limits : Limits) (image : Option (List Byte)) (input : List Arrival) (kept n : ℕ)
    → IsSameRun limits kept (alone ticks (with_trace_limit kept limits) image input n) (alone ticks limits image input n)
runs_same ticks limits image input kept zero = start_same ticks limits image input kept
runs_same ticks limits image input kept (suc n) =
    until_same (ticks.end_at n) ticks limits kept n (alone ticks (with_trace_limit kept limits) image input n) (alone ticks limits image input n) (runs_same ticks limits image input kept n)

-- a state that keeps no entry
abbrev bare : Part → Option ℕ → ℕ → ℕ → State
bare part next steps lost = record { part = part; account = record { next = next; steps = steps; lost = lost; trace = [] } }

pub all_but : (limits : Limits) (kept : ℕ) (s u : State) → IsSameRun limits kept s u → but_trace s ≡ but_trace u
all_but limits kept s u same =
    ap (λ (part : Part). bare part s.account.next s.account.steps s.account.lost) same.part
    ∙ (ap (λ (next : Option ℕ). bare u.part next s.account.steps s.account.lost) same.account.next
    ∙ (ap (λ (steps : ℕ). bare u.part u.account.next steps s.account.lost) same.account.steps
    ∙ ap (λ (lost : ℕ). bare u.part u.account.next u.account.steps lost) same.account.lost))
