-- In a stage the windows of a partition repeat, so two partitions that agree near each beginning agree everywhere.
use Rattle.std.proofs.Common.{◌≡◌, ℕ, ◌+◌, ◌*◌, ◌/◌, ◌%◌, ◌<◌, ◌≤◌, List, find, Option, Some, None, option_map, refl, sym, ap, ◌∙◌, inl, inr, arith}
use Rattle.std.proofs.lemmas.Bool.{cases_lt}
use Rattle.std.proofs.Math.Nat.{add-mod_right}
use Rattle.std.proofs.lemmas.Nat.{div-add-mod'}
use Rattle.ptk_words_model.specs.declared.window.Window.{Window}
use Rattle.ptk_words_model.specs.Windows.{Stage, WindowPlan, IsPlan, IsInForce, windows_at, windows_of, holds, end_from, own_ticks}
use Rattle.ptk_words_model.proofs.Lists.{Any-weaker}
use Rattle.ptk_words_model.proofs.InForce.{in_force, in_force_back, one_in_force, tick_from, from_tick, number_order}
use Rattle.ptk_impact.specs.Agreement.{Agree, AgreeNear, IsBegin}
use Rattle.ptk_impact.proofs.Repeats.{Repeats, agree_on}

-- the end so many ticks later
abbrev pub later_by : ℕ → Option ℕ → Option ℕ
later_by n o = option_map (λ e. e + n) o

later_commutes : (m n : ℕ) (o : Option ℕ) → later_by m (later_by n o) ≡ later_by n (later_by m o)
later_commutes m n None = refl
later_commutes m n (Some e) = ap Some (omega arith)

-- the end in these windows
abbrev end_in : ℕ → ℕ → List Window → ℕ → Option ℕ
end_in frame p windows tick = option_map (end_from frame tick) (find (λ w. holds w (tick % frame)) (windows_of p windows))

mod_at_most : (tick frame : ℕ) → tick % frame ≤ tick
mod_at_most tick frame = omega (arith, div-add-mod' tick frame)

end_moved : (frame tick : ℕ) (o : Option Window) → option_map (end_from frame (tick + frame)) o ≡ later_by frame (option_map (end_from frame tick) o)
end_moved frame tick None = refl
end_moved frame tick (Some w) =
    ap Some (omega (arith, add-mod_right tick frame, mod_at_most tick frame))

end_in_repeats : (frame p : ℕ) (windows : List Window) (tick : ℕ) → end_in frame p windows (tick + frame) ≡ later_by frame (end_in frame p windows tick)
end_in_repeats frame p windows tick =
    ap (λ (place : ℕ). option_map (end_from frame (tick + frame)) (find (λ w. holds w place) (windows_of p windows))) (add-mod_right tick frame)
    ∙ end_moved frame tick (find (λ w. holds w (tick % frame)) (windows_of p windows))

-- from the beginning of the stage that is in force at the top
windows_there : (plan : WindowPlan) (stage : Stage) (top k : ℕ) → IsPlan plan → IsInForce plan.stages (top / plan.frame) stage → stage.from * plan.frame ≤ k → k ≤ top
    → windows_at plan k ≡ stage.windows
windows_there plan stage top k is now from to =
    in_force plan.stages (k / plan.frame) stage is.rising
    (in_force_back plan.stages (top / plan.frame) (k / plan.frame) stage now (from_tick plan.frame k stage.from is.frame from) (number_order plan.frame k top is.frame to))

end_there : (plan : WindowPlan) (stage : Stage) (p top k : ℕ) → IsPlan plan → IsInForce plan.stages (top / plan.frame) stage → stage.from * plan.frame ≤ k → k ≤ top
    → (own_ticks plan p).end_at k ≡ end_in plan.frame p stage.windows k
end_there plan stage p top k is now from to =
    ap (λ (ws : List Window). end_in plan.frame p ws k) (windows_there plan stage top k is now from to)

pub ends_repeat : (plan : WindowPlan) (stage : Stage) (p low top : ℕ) → IsPlan plan → IsInForce plan.stages (top / plan.frame) stage → stage.from * plan.frame ≤ low
    → Repeats (later_by plan.frame) (own_ticks plan p).end_at plan.frame low top
ends_repeat plan stage p low top is now begun k from to =
    end_there plan stage p top (k + plan.frame) is now (omega (arith, begun, from)) to
    ∙ (end_in_repeats plan.frame p stage.windows k
    ∙ sym (ap (later_by plan.frame) (end_there plan stage p top k is now (omega (arith, begun, from)) (omega (arith, to)))))

-- they agree at a tick that comes after both beginnings of the stages in force there
agree_in : (a : WindowPlan) (p : ℕ) (b : WindowPlan) (q low k : ℕ) (s u : Stage) → IsPlan a → IsPlan b → IsInForce a.stages (k / a.frame) s → IsInForce b.stages (k / b.frame) u
    → s.from * a.frame ≤ low → u.from * b.frame ≤ low → low ≤ k → AgreeNear a p b q (k + 1) low → Agree a p b q k
agree_in a p b q low k s u a_is b_is a_now b_now a_begun b_begun from near =
    agree_on (later_by a.frame) (later_by b.frame) (own_ticks a p).end_at (own_ticks b q).end_at a.frame b.frame low k a_is.frame b_is.frame
    (later_commutes a.frame b.frame) (ends_repeat a s p low k a_is a_now a_begun) (ends_repeat b u q low k b_is b_now b_begun)
    (λ i i_from i_near i_to. near i i_from i_near (omega (arith, i_to))) k from (omega arith)

begin_of : (plan : WindowPlan) (number : ℕ) (stage : Stage) → IsInForce plan.stages number stage → IsBegin plan (stage.from * plan.frame)
begin_of plan number stage now =
    Any-weaker (λ s. s ≡ stage) (λ s. s.from * plan.frame ≡ stage.from * plan.frame) (λ s same. ap (λ (u : Stage). u.from * plan.frame) same) plan.stages now.listed

narrowed : (a : WindowPlan) (p : ℕ) (b : WindowPlan) (q tick low k : ℕ) → k < tick → AgreeNear a p b q tick low → AgreeNear a p b q (k + 1) low
narrowed a p b q tick low k below near i from close under = near i from close (omega (arith, below, under))

pub spreads : (a : WindowPlan) (p : ℕ) (b : WindowPlan) (q tick : ℕ) → IsPlan a → IsPlan b
    → ((begin : ℕ) → IsBegin a begin → AgreeNear a p b q tick begin) → ((begin : ℕ) → IsBegin b begin → AgreeNear a p b q tick begin)
    → (k : ℕ) → k < tick → Agree a p b q k
spreads a p b q tick a_is b_is a_near b_near k below =
    let s = one_in_force a (k / a.frame) a_is in
    let u = one_in_force b (k / b.frame) b_is in
    let s_from : s.0.from * a.frame ≤ k = tick_from a.frame k s.0.from s.1.begun in
    let u_from : u.0.from * b.frame ≤ k = tick_from b.frame k u.0.from u.1.begun in
    elim (cases_lt (s.0.from * a.frame) (u.0.from * b.frame)) [
      | inl u_later ↦
          agree_in a p b q (u.0.from * b.frame) k s.0 u.0 a_is b_is s.1 u.1 (omega (arith, u_later)) (omega arith) u_from
          (narrowed a p b q tick (u.0.from * b.frame) k below (b_near (u.0.from * b.frame) (begin_of b (k / b.frame) u.0 u.1)))
      | inr s_later ↦
          agree_in a p b q (s.0.from * a.frame) k s.0 u.0 a_is b_is s.1 u.1 (omega arith) s_later s_from
          (narrowed a p b q tick (s.0.from * a.frame) k below (a_near (s.0.from * a.frame) (begin_of a (k / a.frame) s.0 s.1)))
    ]
