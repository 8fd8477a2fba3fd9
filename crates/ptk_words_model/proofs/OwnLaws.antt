-- The laws of own ticks.
use Rattle.std.proofs.Common.{◌≡◌, ◌≢◌, ℕ, ◌+◌, ◌/◌, ◌%◌, ◌<◌, ◌≤◌, ◌==◌, true, false, ltb, leb, List, length, get_or, find, Option, Some, None, option_map, Any, All, AllPairs, MatchOption, refl, sym, ap, subst, ◌∙◌, inl, inr}
use Rattle.std.proofs.lemmas.Bool.{cases_order, both_ways, and_from, and_parts, lt-ltb, le-leb, ltb-true, leb-true, eq-eqb, eqb-true}
use Rattle.std.proofs.lemmas.List.{get_or_default}
use Rattle.std.proofs.lemmas.Option.{MatchOption-at_some}
use Rattle.ptk_words_model.specs.declared.window.Window.{Window}
use Rattle.ptk_words_model.specs.Windows.{WindowPlan, Holds, holds, end_from, windows_at, windows_in_frame, IsOwn, IsOwnUntil, IsTable, IsPlan, windows_of, own_ticks}
use Rattle.ptk_words_model.proofs.Lists.{Any-weaker, Any-all, Any-filter, Any-filtered, find-cases}
use Rattle.ptk_words_model.proofs.Places.{Fits, end_near, end_after, whole_holds, whole_end, whole_number}
use Rattle.ptk_words_model.proofs.InForce.{table_in}

holds_from : (w : Window) (place : ℕ) → Holds w place → holds w place ≡ true
holds_from w place h = and_from (leb w.start place) (ltb place (w.start + w.length)) (le-leb w.start place h.0) (lt-ltb place (w.start + w.length) h.1)

from_holds : (w : Window) (place : ℕ) → holds w place ≡ true → Holds w place
from_holds w place h =
    let both = and_parts (leb w.start place) (ltb place (w.start + w.length)) h in
    (leb-true w.start place both.0, ltb-true place (w.start + w.length) both.1)

-- each window of a table has ticks and lies in the frame
pub all_fit : (frame : ℕ) (ws : List Window) → IsTable frame ws → All (Fits frame) ws
all_fit frame ws is k d below = record { long = is.long k d below; within = is.within k d below }

pub fit_at : (plan : WindowPlan) (tick : ℕ) → IsPlan plan → All (Fits plan.frame) (windows_at plan tick)
fit_at plan tick is = all_fit plan.frame (windows_at plan tick) (table_in plan (tick / plan.frame) is)

-- the windows of the partition among all, and back
pub Any-of : (p : ℕ) (ws : List Window) (P : Window → Type 0) → Any (λ w. (w.partition ≡ p) × P w) ws → Any P (windows_of p ws)
Any-of p ws P h =
    Any-filter (λ w. w.partition == p) P ws (Any-weaker (λ w. (w.partition ≡ p) × P w) (λ w. ((w.partition == p) ≡ true) × P w) (λ w both. (eq-eqb w.partition p both.0, both.1)) ws h)

pub Any-among : (p : ℕ) (ws : List Window) (P : Window → Type 0) → Any P (windows_of p ws) → Any (λ w. (w.partition ≡ p) × P w) ws
Any-among p ws P h =
    Any-weaker (λ w. ((w.partition == p) ≡ true) × P w) (λ w. (w.partition ≡ p) × P w) (λ w both. (eqb-true w.partition p both.0, both.1)) ws (Any-filtered (λ w. w.partition == p) P ws h)

-- ---- what there is one of
pub only_one : {X : Type 0} (P : Type 0) (Q : X → Type 0) (x : X) → ¬ P → ((y : X) → Q y → y ≡ x) → (o : Option X) → MatchOption o P Q → o ≡ Some x
only_one P Q x some same None p = absurd (some p)
only_one P Q x some same (Some y) q = ap Some (same y q)

pub no_one : {X : Type 0} (P : Type 0) (Q : X → Type 0) → ((y : X) → ¬ Q y) → (o : Option X) → MatchOption o P Q → o ≡ None
no_one P Q none None p = refl
no_one P Q none (Some y) q = absurd (none y q)

-- ---- the end of the window
MatchOption-mapped : {X Y : Type 0} (f : X → Y) (P P' : Type 0) (Q : X → Type 0) (Q' : Y → Type 0) → (P → P') → ((x : X) → Q x → Q' (f x)) → (o : Option X) → MatchOption o P Q → MatchOption (option_map f o) P' Q'
MatchOption-mapped f P P' Q Q' g h None p = g p
MatchOption-mapped f P P' Q Q' g h (Some x) q = h x q

pub end_of_window : (plan : WindowPlan) (p tick : ℕ) → MatchOption ((own_ticks plan p).end_at tick) (¬ IsOwn plan p tick) (IsOwnUntil plan p tick)
end_of_window plan p tick =
    let place = tick % plan.frame in
    MatchOption-mapped (end_from plan.frame tick) (All (λ w. holds w place ≡ false) (windows_of p (windows_at plan tick))) (¬ IsOwn plan p tick) (λ v. Any (λ w. (w ≡ v) × (holds w place ≡ true)) (windows_of p (windows_at plan tick))) (IsOwnUntil plan p tick)
    (λ none own.
    let h = Any-all (λ w. Holds w place) (λ w. holds w place ≡ false) (windows_of p (windows_at plan tick)) none (Any-of p (windows_at plan tick) (λ w. Holds w place) own) in
    both_ways (holds h.1 place) h.4.1 (holds_from h.1 place h.4.0))
    (λ v some.
    Any-weaker (λ w. (w.partition ≡ p) × (Holds w place × (end_from plan.frame tick v ≡ end_from plan.frame tick w))) (λ w. (w.partition ≡ p) × Holds w place × (end_from plan.frame tick v ≡ end_from plan.frame tick w))
    (λ w h. (h.0, h.1.0, h.1.1)) (windows_at plan tick)
    (Any-among p (windows_at plan tick) (λ w. Holds w place × (end_from plan.frame tick v ≡ end_from plan.frame tick w))
    (Any-weaker (λ w. (w ≡ v) × (holds w place ≡ true)) (λ w. Holds w place × (end_from plan.frame tick v ≡ end_from plan.frame tick w))
    (λ w h. (from_holds w place h.1, ap (end_from plan.frame tick) (sym h.0))) (windows_of p (windows_at plan tick)) some)))
    (find (λ w. holds w place) (windows_of p (windows_at plan tick))) (find-cases (λ w. holds w place) (windows_of p (windows_at plan tick)))

-- two windows of a table that hold one place are one
same_window : (ws : List Window) (place i j : ℕ) (v w : Window) → AllPairs (λ v w. (place : ℕ) → Holds v place → ¬ Holds w place) ws → i < length ws → j < length ws → get_or ws i v ≡ v → get_or ws j w ≡ w → Holds v place → Holds w place → v ≡ w
same_window ws place i j v w apart i_below j_below i_is j_is v_holds w_holds =
    elim (cases_order i j) [
      | inl same ↦ sym i_is ∙ (get_or_default ws i v w i_below ∙ (ap (λ k. get_or ws k w) same ∙ j_is))
      | inr (inl before) ↦ absurd (apart i j v before j_below place (subst (λ (x : Window). Holds x place) (sym i_is) v_holds) (subst (λ (x : Window). Holds x place) (sym (get_or_default ws j v w j_below ∙ j_is)) w_holds))
      | inr (inr after) ↦ absurd (apart j i v after i_below place (subst (λ (x : Window). Holds x place) (sym (get_or_default ws j v w j_below ∙ j_is)) w_holds) (subst (λ (x : Window). Holds x place) (sym i_is) v_holds))
    ]

-- a tick up to the end of its window is own
pub own_from : (plan : WindowPlan) (p tick end : ℕ) → IsOwnUntil plan p tick end → IsOwn plan p tick
own_from plan p tick end until =
    Any-weaker (λ w. (w.partition ≡ p) × Holds w (tick % plan.frame) × (end ≡ end_from plan.frame tick w)) (λ w. (w.partition ≡ p) × Holds w (tick % plan.frame)) (λ w h. (h.0, h.1)) (windows_at plan tick) until

pub until_near : (plan : WindowPlan) (p tick end : ℕ) → IsPlan plan → IsOwnUntil plan p tick end → (tick < end) × (end ≤ tick + plan.frame)
until_near plan p tick end is until =
    let w = until.1 in
    let fits : Fits plan.frame w = subst (Fits plan.frame) until.3 (fit_at plan tick is until.0 w until.2) in (
      subst (λ (e : ℕ). tick < e) (sym until.4.2) (end_after plan.frame tick w until.4.1),
      subst (λ (e : ℕ). e ≤ tick + plan.frame) (sym until.4.2) (end_near plan.frame tick w fits),
    )

pub end_none : (plan : WindowPlan) (p tick : ℕ) → ¬ IsOwn plan p tick → (own_ticks plan p).end_at tick ≡ None
end_none plan p tick other =
    no_one (¬ IsOwn plan p tick) (IsOwnUntil plan p tick) (λ end until. other (own_from plan p tick end until)) ((own_ticks plan p).end_at tick) (end_of_window plan p tick)

pub end_one : (plan : WindowPlan) (p tick end : ℕ) → IsPlan plan → IsOwnUntil plan p tick end → (own_ticks plan p).end_at tick ≡ Some end
end_one plan p tick end is until =
    only_one (¬ IsOwn plan p tick) (IsOwnUntil plan p tick) end
    (λ none. none (own_from plan p tick end until))
    (λ other also.
    let same = same_window (windows_at plan tick) (tick % plan.frame) also.0 until.0 also.1 until.1 (table_in plan (tick / plan.frame) is).apart also.2 until.2 also.3 until.3 also.4.1 until.4.1 in
    also.4.2 ∙ (ap (end_from plan.frame tick) same ∙ sym until.4.2))
    ((own_ticks plan p).end_at tick) (end_of_window plan p tick)

pub window_whole : (plan : WindowPlan) (p tick end : ℕ) → IsPlan plan → (own_ticks plan p).end_at tick ≡ Some end → (tick < end) × (end ≤ tick + plan.frame) × ((k : ℕ) → tick ≤ k → k < end → (own_ticks plan p).end_at k ≡ Some end)
window_whole plan p tick end is ends =
    let until = MatchOption-at_some (¬ IsOwn plan p tick) (IsOwnUntil plan p tick) end ends (end_of_window plan p tick) in
    let w = until.1 in
    let fits : Fits plan.frame w = subst (Fits plan.frame) until.3 (fit_at plan tick is until.0 w until.2) in
    let to : end ≡ end_from plan.frame tick w = until.4.2 in
    let near = until_near plan p tick end is until in (
      near.0,
      near.1,
      λ k from below.
          let under : k < end_from plan.frame tick w = subst (λ (e : ℕ). k < e) to below in
          let same : tick / plan.frame ≡ k / plan.frame = sym (whole_number plan.frame tick k w is.frame fits from under) in
          end_one plan p k end is
          (subst (λ (number : ℕ). Any (λ v. (v.partition ≡ p) × Holds v (k % plan.frame) × (end ≡ end_from plan.frame k v)) (windows_in_frame plan.stages number)) same
          (until.0, w, until.2, until.3, (until.4.0, whole_holds plan.frame tick k w is.frame fits until.4.1 from under, to ∙ sym (whole_end plan.frame tick k w is.frame fits until.4.1 from under)))),
    )

pub own_apart : (plan : WindowPlan) (p q tick : ℕ) → IsPlan plan → p ≢ q → IsOwn plan p tick → ¬ IsOwn plan q tick
own_apart plan p q tick is differ one other =
    let same = same_window (windows_at plan tick) (tick % plan.frame) one.0 other.0 one.1 other.1 (table_in plan (tick / plan.frame) is).apart one.2 other.2 one.3 other.3 one.4.1 other.4.1 in
    differ (sym one.4.0 ∙ (ap (λ (w : Window). w.partition) same ∙ other.4.0))
