-- After a choice the running thread stays before the first of the line.
use Rattle.std.proofs.Common.{◌≡◌, ℕ, ◌<◌, ◌≤◌, Bool, true, false, not, cond, List, [], ◌∷◌, refl, sym, ◌∙◌, ap, subst, arith, inl, inr}
use Rattle.std.specs.Prelude.{Option, Some, None, find, nat_lt, ◌==◌, if◌then◌else◌}
use Rattle.std.proofs.lemmas.Bool.{eqb-true, le-ltb, ltb-true}
use Rattle.ptk_words.specs.Pools.{without, greatest, first_of_greatest, is_in}
use Rattle.ptk_words.proofs.Lists.{first_in, in_head, in_without}
use Rattle.ptk_words_model.specs.State.{Part, with_locks}
use Rattle.ptk_words_model.specs.Priority.{effective_priority}
use Rattle.ptk_words_model.specs.Schedule.{first_ready, at_head, after_dispatch, after_choice_between, after_choice}
use Rattle.ptk_words_sync_invariant.proofs.Greatest.{member_le}
use Rattle.ptk_words_laws.specs.Quiet.{stays_before}
use Rattle.ptk_gate_steps.specs.Chosen.{IsChosen}

-- ---- the first of greatest rank

found_by : (p : ℕ → Bool) (x t : ℕ) (rest : Option ℕ) (b : Bool) → p x ≡ b → cond b (Some x) rest ≡ Some t → (rest ≡ Some t → p t ≡ true) → p t ≡ true
found_by p x t rest true is e more = let same : x ≡ t = cc in ap p (sym same) ∙ is
found_by p x t rest false is e more = more e

-- what is found passes
found_passes : (p : ℕ → Bool) (t : ℕ) (ts : List ℕ) → find p ts ≡ Some t → p t ≡ true
found_passes p t [] e = absurd (let no : ⊥ = cc in no)
found_passes p t (x ∷ ts) e = found_by p x t (find p ts) (p x) refl e (found_passes p t ts)

-- no rank of the list is greater
first_most : (rank : ℕ → ℕ) (t u : ℕ) (ts : List ℕ) → first_of_greatest rank ts ≡ Some t → is_in u ts ≡ true → rank u ≤ rank t
first_most rank t u ts e here =
    let own : rank t ≡ greatest rank ts = eqb-true (rank t) (greatest rank ts) (found_passes (λ k. rank k == greatest rank ts) t ts e) in
    let le : rank u ≤ greatest rank ts = member_le rank u ts 0 here in
    omega (arith, own, le)

-- ---- the choice

stays_by : (rank : ℕ → ℕ) (t : ℕ) (first : Option ℕ) → ((u : ℕ) → first ≡ Some u → rank u ≤ rank t) → stays_before rank t first ≡ true
stays_by rank t None most = refl
stays_by rank t (Some u) most = ap not (le-ltb (rank t) (rank u) (most u refl))

-- a thread that none of the line is before stays once it is out of the line
stays_out : (rank : ℕ → ℕ) (t : ℕ) (ts : List ℕ) → ((u : ℕ) → is_in u ts ≡ true → rank u ≤ rank t) → stays_before rank t (first_of_greatest rank (without t ts)) ≡ true
stays_out rank t ts most = stays_by rank t (first_of_greatest rank (without t ts)) (λ u e. most u (in_without t u ts (first_in rank u (without t ts) e)).1)

number_of : (P : ℕ → Type 0) (u t : ℕ) → Some u ≡ Some t → P u → P t
number_of P u t e h = let same : u ≡ t = cc in subst P same h

dispatched : (u : ℕ) (s : Part) → ((v : ℕ) → is_in v s.line ≡ true → effective_priority s.locks v ≤ effective_priority s.locks u) → IsChosen (after_dispatch u s)
dispatched u s most = λ t runs.
    number_of (λ (k : ℕ). stays_before (effective_priority s.locks) k (first_of_greatest (effective_priority s.locks) (without u s.line)) ≡ true) u t runs
    (stays_out (effective_priority s.locks) u s.line most)

preempted : (r u : ℕ) (s : Part) (b : Bool) → s.running ≡ Some r → first_ready s.locks ≡ Some u → nat_lt (effective_priority s.locks r) (effective_priority s.locks u) ≡ b
    → IsChosen (if b then after_dispatch u (with_locks (at_head r) s) else s)
preempted r u s true runs first less =
    let rank : ℕ → ℕ = effective_priority s.locks in
    let lt : rank r < rank u = ltb-true (rank r) (rank u) less in
    dispatched u (with_locks (at_head r) s) (λ v here. elim (in_head r v s.line here) [
      | inl same ↦ (let own : rank v ≡ rank r = ap rank same in omega (arith, lt, own))
      | inr rest ↦ first_most rank u v s.line first rest
    ])
preempted r u s false runs first less = λ t runs'.
    number_of (λ (k : ℕ). stays_before (effective_priority s.locks) k (first_ready s.locks) ≡ true) r t (sym runs ∙ runs')
    (ap (stays_before (effective_priority s.locks) r) first ∙ ap not less)

chosen_by : (running first : Option ℕ) (s : Part) → s.running ≡ running → first_ready s.locks ≡ first → IsChosen (after_choice_between running first s)
chosen_by None None s runs first = λ t _. ap (stays_before (effective_priority s.locks) t) first
chosen_by (Some r) None s runs first = λ t _. ap (stays_before (effective_priority s.locks) t) first
chosen_by None (Some u) s runs first = dispatched u s (λ v here. first_most (effective_priority s.locks) u v s.line first here)
chosen_by (Some r) (Some u) s runs first = preempted r u s (nat_lt (effective_priority s.locks r) (effective_priority s.locks u)) runs first refl

pub choice_is_chosen : (s : Part) → IsChosen (after_choice s)
choice_is_chosen s = chosen_by s.running (first_ready s.locks) s refl refl
