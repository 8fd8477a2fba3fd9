-- One window that lies in the frame: its first tick from a tick on, and its ticks up to its end.
use Rattle.std.proofs.Common.{◌≡◌, ℕ, ◌+◌, ◌/◌, ◌%◌, ◌<◌, ◌≤◌, max, ltb, sym, subst, inl, inr, arith}
use Rattle.std.proofs.lemmas.Bool.{cases_lt, cond-true, cond-false, lt-ltb, le-ltb}
use Rattle.std.proofs.lemmas.Nat.{mod_below, div-add-mod'}
use Rattle.ptk_words_model.specs.declared.window.Window.{Window}
use Rattle.ptk_words_model.specs.Windows.{Holds, frame_start, end_from, first_from}
use Rattle.ptk_words_model.proofs.Remainders.{mod_here, mod_next, number_here}

-- the window has ticks and lies in the frame
pub record Fits (frame : ℕ) (w : Window) : Type 0 where
  pub long : 16 ≤ w.length
  pub within : w.start + w.length ≤ frame

pub first_here : (frame tick : ℕ) (w : Window) → tick % frame < w.start + w.length → first_from frame tick w ≡ frame_start frame tick + max (tick % frame) w.start
first_here frame tick w h =
    cond-true (ltb (tick % frame) (w.start + w.length)) (frame_start frame tick + max (tick % frame) w.start) (frame_start frame tick + frame + w.start) (lt-ltb (tick % frame) (w.start + w.length) h)

pub first_next : (frame tick : ℕ) (w : Window) → w.start + w.length ≤ tick % frame → first_from frame tick w ≡ frame_start frame tick + frame + w.start
first_next frame tick w h =
    cond-false (ltb (tick % frame) (w.start + w.length)) (frame_start frame tick + max (tick % frame) w.start) (frame_start frame tick + frame + w.start) (le-ltb (tick % frame) (w.start + w.length) h)

pub start_le : (frame tick : ℕ) → frame_start frame tick + tick % frame ≡ tick
start_le frame tick = omega (arith, div-add-mod' tick frame)

pub first_holds : (frame tick : ℕ) (w : Window) → 0 < frame → Fits frame w → Holds w (first_from frame tick w % frame)
first_holds frame tick w positive fits =
    let below = mod_below tick frame positive in
    elim (cases_lt (tick % frame) (w.start + w.length)) [
      | inl here ↦
          let n = frame_start frame tick + max (tick % frame) w.start in
          let place = mod_here frame tick n positive (omega arith) (omega (arith, fits.long, fits.within)) in
          subst (λ (k : ℕ). Holds w (k % frame)) (sym (first_here frame tick w here)) (omega arith, omega (arith, fits.long))
      | inr past ↦
          let n = frame_start frame tick + frame + w.start in
          let place = mod_next frame tick n positive (omega arith) (omega (arith, fits.long, fits.within)) in
          subst (λ (k : ℕ). Holds w (k % frame)) (sym (first_next frame tick w past)) (omega arith, omega (arith, fits.long))
    ]

pub first_not_before : (frame tick : ℕ) (w : Window) → 0 < frame → tick ≤ first_from frame tick w
first_not_before frame tick w positive =
    let below = mod_below tick frame positive in
    let split = start_le frame tick in
    elim (cases_lt (tick % frame) (w.start + w.length)) [
      | inl here ↦ omega (arith, first_here frame tick w here)
      | inr past ↦ omega (arith, first_next frame tick w past)
    ]

-- no tick of the window comes between
pub first_least : (frame tick k : ℕ) (w : Window) → 0 < frame → Fits frame w → tick ≤ k → Holds w (k % frame) → first_from frame tick w ≤ k
first_least frame tick k w positive fits from holds =
    let below = mod_below tick frame positive in
    let split = start_le frame tick in
    let high : frame_start frame tick + frame + frame ≤ k → first_from frame tick w ≤ k = λ far.
    elim (cases_lt (tick % frame) (w.start + w.length)) [
      | inl here ↦ omega (arith, first_here frame tick w here, fits.long, fits.within)
      | inr past ↦ omega (arith, first_next frame tick w past, fits.long, fits.within)
    ] in
    elim (cases_lt k (frame_start frame tick + frame)) [
      | inl near ↦
          let place = mod_here frame tick k positive (omega arith) near in
          elim (cases_lt (tick % frame) (w.start + w.length)) [
            | inl here ↦ omega (arith, first_here frame tick w here, holds.0)
            | inr past ↦ absurd (omega (arith, holds.1))
          ]
      | inr next ↦
          elim (cases_lt k (frame_start frame tick + frame + frame)) [
            | inl near ↦
                let place = mod_next frame tick k positive next near in
                elim (cases_lt (tick % frame) (w.start + w.length)) [
                  | inl here ↦ omega (arith, first_here frame tick w here, fits.within, fits.long)
                  | inr past ↦ omega (arith, first_next frame tick w past, holds.0)
                ]
            | inr far ↦ high far
          ]
    ]

-- less than a frame after the tick
pub first_near : (frame tick : ℕ) (w : Window) → 0 < frame → Fits frame w → first_from frame tick w < tick + frame
first_near frame tick w positive fits =
    let below = mod_below tick frame positive in
    let split = start_le frame tick in
    elim (cases_lt (tick % frame) (w.start + w.length)) [
      | inl here ↦ omega (arith, first_here frame tick w here, fits.within, fits.long)
      | inr past ↦ omega (arith, first_next frame tick w past, fits.long)
    ]

pub end_near : (frame tick : ℕ) (w : Window) → Fits frame w → end_from frame tick w ≤ tick + frame
end_near frame tick w fits = omega (arith, start_le frame tick, fits.within)

-- from a tick of the window up to its end each tick is in it, and has that end
pub end_after : (frame tick : ℕ) (w : Window) → Holds w (tick % frame) → tick < end_from frame tick w
end_after frame tick w holds = omega (arith, start_le frame tick, holds.1)

pub whole_holds : (frame tick k : ℕ) (w : Window) → 0 < frame → Fits frame w → Holds w (tick % frame) → tick ≤ k → k < end_from frame tick w → Holds w (k % frame)
whole_holds frame tick k w positive fits holds from to =
    let split = start_le frame tick in
    let place = mod_here frame tick k positive (omega arith) (omega (arith, fits.within)) in
    (omega (arith, holds.0), omega arith)

pub whole_end : (frame tick k : ℕ) (w : Window) → 0 < frame → Fits frame w → Holds w (tick % frame) → tick ≤ k → k < end_from frame tick w → end_from frame k w ≡ end_from frame tick w
whole_end frame tick k w positive fits holds from to =
    let split = start_le frame tick in
    let place = mod_here frame tick k positive (omega arith) (omega (arith, fits.within)) in
    omega arith

pub whole_number : (frame tick k : ℕ) (w : Window) → 0 < frame → Fits frame w → tick ≤ k → k < end_from frame tick w → k / frame ≡ tick / frame
whole_number frame tick k w positive fits from to =
    let split = start_le frame tick in
    number_here frame tick k positive (omega arith) (omega (arith, fits.within))
