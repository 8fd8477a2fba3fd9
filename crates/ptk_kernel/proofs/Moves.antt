-- One move of a partition after another, and what a move leaves for the next.
use Rattle.std.proofs.Common.{◌≡◌, ℕ, ◌<◌, true, sym, ◌∙◌, ap, subst}
use Rattle.ptk_words.specs.declared.sections.Limits.{Limits}
use Rattle.ptk_words_model.specs.State.{Part}
use Rattle.ptk_words_model.specs.Decision.{after_arrivals, ready_at, runner_of, after_turn, after_decision}
use Rattle.ptk_words_model.specs.Schedule.{after_choice}
use Rattle.ptk_words_model.specs.Withdrawal.{after_expiries}
use Rattle.ptk_words.specs.Faults.{is_active}
use Rattle.ptk_words_invariant.proofs.Decisions.{arrivals_status}
use Rattle.ptk_words_invariant.proofs.Timeouts.{expiries_status}
use Rattle.ptk_gate.specs.Kept.{Kept, AreParts, part_at, put_part, limits_at}
use Rattle.ptk_gate.specs.NextStep.{NextStep}
use Rattle.ptk_gate.specs.Chosen.{IsChosen}
use Rattle.ptk_gate.proofs.Chosen.{choice_is_chosen}
use Rattle.ptk_gate.specs.Answers.{call_answer}
use Rattle.ptk_gate.specs.CallSteps.{past_ecall}
use Rattle.ptk_gate.proofs.Parted.{part_at-put, put_part-put}

-- what was put is the partition's part
pub part_after : (n p : ℕ) (s : Part) (old new : Kept) → AreParts n old → p < n → new ≡ put_part p s old → part_at p new ≡ s
part_after n p s old new parts lt e = ap (part_at p) e ∙ part_at-put n p s old parts lt

-- a second move on what the first left is one move of both
pub moved_then : (n p : ℕ) (s : Part) (g : Limits → Part → Part) (old mid new : Kept) → AreParts n old → p < n
    → mid ≡ put_part p s old → new ≡ put_part p (g (limits_at p mid) (part_at p mid)) mid → new ≡ put_part p (g (limits_at p old) s) old
moved_then n p s g old mid new parts lt first second =
    second
    ∙ ap (λ (kept : Kept). put_part p (g (limits_at p kept) (part_at p kept)) kept) first
    ∙ ap (λ (q : Part). put_part p (g (limits_at p old) q) (put_part p s old)) (part_at-put n p s old parts lt)
    ∙ put_part-put p (g (limits_at p old) s) s old

-- what has arrived, and then the expiries
events_come : (n p tick : ℕ) (old arrived new : Kept) → AreParts n old → p < n → arrived ≡ put_part p (after_arrivals (limits_at p old) tick (part_at p old)) old
    → new ≡ put_part p (after_expiries tick (part_at p arrived)) arrived → new ≡ put_part p (after_expiries tick (after_arrivals (limits_at p old) tick (part_at p old))) old
events_come n p tick old arrived new parts lt first second =
    moved_then n p (after_arrivals (limits_at p old) tick (part_at p old)) (λ limits s. after_expiries tick s) old arrived new parts lt first second

-- they leave the partition going
pub still_active : (n p tick : ℕ) (old arrived new : Kept) → AreParts n old → p < n → is_active (part_at p old).status ≡ true
    → arrived ≡ put_part p (after_arrivals (limits_at p old) tick (part_at p old)) old → new ≡ put_part p (after_expiries tick (part_at p arrived)) arrived → is_active (part_at p new).status ≡ true
still_active n p tick old arrived new parts lt active first second =
    let come : Part = after_arrivals (limits_at p old) tick (part_at p old) in
    ap (λ (s : Part). is_active s.status) (part_after n p (after_expiries tick come) old new parts lt (events_come n p tick old arrived new parts lt first second))
    ∙ ap is_active (expiries_status tick come)
    ∙ ap is_active (arrivals_status (limits_at p old) tick (part_at p old))
    ∙ active

-- the arrivals, the expiries, and then the choice
pub made_ready : (n p tick : ℕ) (old arrived expired new : Kept) → AreParts n old → p < n
    → arrived ≡ put_part p (after_arrivals (limits_at p old) tick (part_at p old)) old → expired ≡ put_part p (after_expiries tick (part_at p arrived)) arrived
    → new ≡ put_part p (after_choice (part_at p expired)) expired → new ≡ put_part p (ready_at (limits_at p old) tick (part_at p old)) old
made_ready n p tick old arrived expired new parts lt first second third =
    moved_then n p (after_expiries tick (after_arrivals (limits_at p old) tick (part_at p old))) (λ limits s. after_choice s) old expired new parts lt
    (events_come n p tick old arrived expired parts lt first second) third

-- and then the running thread is chosen
pub ready_chosen : (n p tick : ℕ) (old arrived expired new : Kept) → AreParts n old → p < n
    → arrived ≡ put_part p (after_arrivals (limits_at p old) tick (part_at p old)) old → expired ≡ put_part p (after_expiries tick (part_at p arrived)) arrived
    → new ≡ put_part p (after_choice (part_at p expired)) expired → IsChosen (part_at p new)
ready_chosen n p tick old arrived expired new parts lt first second third =
    let ready : Part = ready_at (limits_at p old) tick (part_at p old) in
    subst IsChosen (sym (part_after n p ready old new parts lt (made_ready n p tick old arrived expired new parts lt first second third)))
    (choice_is_chosen (after_expiries tick (after_arrivals (limits_at p old) tick (part_at p old))))

-- the readying and then the turn
pub decision_made : (n p tick room : ℕ) (old mid new : Kept) → AreParts n old → p < n
    → mid ≡ put_part p (ready_at (limits_at p old) tick (part_at p old)) old
    → new ≡ put_part p (after_turn (limits_at p mid) tick room (runner_of (part_at p mid)) (part_at p mid)) mid
    → new ≡ put_part p (after_decision (limits_at p old) tick room (part_at p old)) old
decision_made n p tick room old mid new parts lt first second =
    moved_then n p (ready_at (limits_at p old) tick (part_at p old)) (λ limits s. after_turn limits tick room (runner_of s) s) old mid new parts lt first second

-- the pc passed, and then the call
pub call_passed : (n p tick : ℕ) (next : NextStep) (old mid new : Kept) → AreParts n old → p < n
    → mid ≡ put_part p (past_ecall next.thread next.pc (part_at p old)) old → new ≡ put_part p (call_answer (limits_at p mid) tick (part_at p mid)).part mid
    → new ≡ put_part p (call_answer (limits_at p old) tick (past_ecall next.thread next.pc (part_at p old))).part old
call_passed n p tick next old mid new parts lt first second =
    moved_then n p (past_ecall next.thread next.pc (part_at p old)) (λ limits s. (call_answer limits tick s).part) old mid new parts lt first second
