-- Before the least deadline no thread's deadline is due, and at it one is.
use Rattle.std.proofs.Common.{◌≡◌, ℕ, ◌+◌, ◌≤◌, ◌<◌, Bool, true, false, cond, List, [], ◌∷◌, refl, sym, ◌∙◌, ap, arith, inl, inr}
use Rattle.std.specs.Prelude.{Option, Some, None, IfSome, option_map, unwrap_or, min, filter, filter_map, nat_le}
use Rattle.std.specs.List.{enumerate_from}
use Rattle.std.proofs.lemmas.Bool.Decides.{leb_tells}
use Rattle.std.proofs.lemmas.Bool.{lt-leb}
use Rattle.ptk_words_model.specs.Withdrawal.{Expiry, expiry_of}
use Rattle.ptk_clock.specs.ByThread.{earlier, least_deadline}
use Rattle.ptk_gate_steps.specs.QuietStops.{before_deadline}

-- the due ones of deadlines whose first is that of thread i
abbrev due_from : ℕ → ℕ → List (Option ℕ) → List Expiry
due_from tick i deadlines = filter (λ a. nat_le a.deadline tick) (filter_map expiry_of (enumerate_from i deadlines))

-- the least of these deadlines, if there is one, is still to come after the tick
abbrev IsLater : ℕ → Option ℕ → Type 0
IsLater tick least = IfSome least (λ deadline. tick < deadline)

later_with : (tick deadline : ℕ) (least : Option ℕ) → tick < deadline → IsLater tick least → IsLater tick (earlier (Some deadline) least)
later_with tick deadline None lt later = lt
later_with tick deadline (Some other) lt later = omega (arith, lt, later)

later_first : (tick deadline : ℕ) (least : Option ℕ) → IsLater tick (earlier (Some deadline) least) → tick < deadline
later_first tick deadline None later = later
later_first tick deadline (Some other) later = omega (arith, later)

later_rest : (tick deadline : ℕ) (least : Option ℕ) → IsLater tick (earlier (Some deadline) least) → IsLater tick least
later_rest tick deadline None later = tt
later_rest tick deadline (Some other) later = omega (arith, later)

-- where the least is later, none is due
pub none_due : (tick i : ℕ) (deadlines : List (Option ℕ)) → IsLater tick (least_deadline deadlines) → due_from tick i deadlines ≡ []
none_due tick i [] later = refl
none_due tick i (None ∷ deadlines) later = none_due tick (i + 1) deadlines later
none_due tick i (Some deadline ∷ deadlines) later =
    let first : nat_le deadline tick ≡ false = lt-leb deadline tick (later_first tick deadline (least_deadline deadlines) later) in
    let rest : due_from tick (i + 1) deadlines ≡ [] = none_due tick (i + 1) deadlines (later_rest tick deadline (least_deadline deadlines) later) in
    ap (λ (b : Bool). cond b (record { thread = i; deadline = deadline } ∷ due_from tick (i + 1) deadlines) (due_from tick (i + 1) deadlines)) first ∙ rest

-- where none is due, the least is later
pub least_later : (tick i : ℕ) (deadlines : List (Option ℕ)) → due_from tick i deadlines ≡ [] → IsLater tick (least_deadline deadlines)
least_later tick i [] none = tt
least_later tick i (None ∷ deadlines) none = least_later tick (i + 1) deadlines none
least_later tick i (Some deadline ∷ deadlines) none = elim (leb_tells deadline tick) [
  | inl up ↦ (
      let due : nat_le deadline tick ≡ true = up.0 in
      let some : record { thread = i; deadline = deadline } ∷ due_from tick (i + 1) deadlines ≡ [] =
      ap (λ (b : Bool). cond b (record { thread = i; deadline = deadline } ∷ due_from tick (i + 1) deadlines) (due_from tick (i + 1) deadlines)) (sym due) ∙ none
      in
      let no : ⊥ = cc in
      absurd no)
  | inr down ↦ (
      let lt : tick < deadline = down.1 in
      let rest : due_from tick (i + 1) deadlines ≡ [] =
      ap (λ (b : Bool). cond b (record { thread = i; deadline = deadline } ∷ due_from tick (i + 1) deadlines) (due_from tick (i + 1) deadlines)) (sym down.0) ∙ none
      in
      later_with tick deadline (least_deadline deadlines) lt (least_later tick (i + 1) deadlines rest))
]

-- ---- the stop

deadline_le : (least : Option ℕ) (stop : ℕ) → unwrap_or (option_map (λ (deadline : ℕ). min deadline stop) least) stop ≤ stop
deadline_le None stop = omega arith
deadline_le (Some deadline) stop = omega arith

pub before_deadline_le : (deadlines : List (Option ℕ)) (stop : ℕ) → before_deadline deadlines stop ≤ stop
before_deadline_le deadlines stop = deadline_le (least_deadline deadlines) stop

later_before : (least : Option ℕ) (stop n k : ℕ) → n ≤ unwrap_or (option_map (λ (deadline : ℕ). min deadline stop) least) stop → k < n → IsLater k least
later_before None stop n k le lt = tt
later_before (Some deadline) stop n k le lt = omega (arith, le, lt)

-- up to the stop no deadline is due
pub none_due_before : (i stop n k : ℕ) (deadlines : List (Option ℕ)) → n ≤ before_deadline deadlines stop → k < n → due_from k i deadlines ≡ []
none_due_before i stop n k deadlines le lt = none_due k i deadlines (later_before (least_deadline deadlines) stop n k le lt)

later_until : (least : Option ℕ) (stop n : ℕ) → n ≤ stop → ((k : ℕ) → k < n → IsLater k least) → n ≤ unwrap_or (option_map (λ (deadline : ℕ). min deadline stop) least) stop
later_until None stop n le later = le
later_until (Some deadline) stop n le later = elim (leb_tells n deadline) [
  | inl up ↦ (let first : n ≤ deadline = up.1 in omega (arith, first, le))
  | inr down ↦ (let lt : deadline < n = down.1 in let no : deadline < deadline = later deadline lt in omega (arith, no))
]

-- and at no later tick
pub deadline_no_later : (i stop n : ℕ) (deadlines : List (Option ℕ)) → n ≤ stop → ((k : ℕ) → k < n → due_from k i deadlines ≡ []) → n ≤ before_deadline deadlines stop
deadline_no_later i stop n deadlines le none = later_until (least_deadline deadlines) stop n le (λ k lt. least_later k i deadlines (none k lt))
