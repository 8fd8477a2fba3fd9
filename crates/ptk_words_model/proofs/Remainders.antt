-- The place in its frame of a tick that is near another, and the frame's number.
use Rattle.std.proofs.Common.{◌≡◌, ℕ, suc, ◌+◌, ◌-◌, ◌*◌, ◌/◌, ◌%◌, ◌<◌, ◌≤◌, ap, ◌∙◌, arith, suc-mul}
use Rattle.std.proofs.lemmas.Nat.{div-add-mod', div-mul-add, mod-mul-add}

-- in the tick's frame
pub mod_here : (frame tick k : ℕ) → 0 < frame → tick - tick % frame ≤ k → k < tick - tick % frame + frame → k % frame ≡ k - (tick - tick % frame)
mod_here frame tick k positive from to =
    let split = div-add-mod' tick frame in
    let same : k ≡ tick / frame * frame + (k - (tick - tick % frame)) = omega arith in
    ap (λ x. x % frame) same ∙ mod-mul-add (tick / frame) frame (k - (tick - tick % frame)) (omega arith)

-- in the frame after it
pub mod_next : (frame tick k : ℕ) → 0 < frame → tick - tick % frame + frame ≤ k → k < tick - tick % frame + frame + frame → k % frame ≡ k - (tick - tick % frame + frame)
mod_next frame tick k positive from to =
    let split = div-add-mod' tick frame in
    let more = suc-mul (tick / frame) frame in
    let same : k ≡ suc (tick / frame) * frame + (k - (tick - tick % frame + frame)) = omega arith in
    ap (λ x. x % frame) same ∙ mod-mul-add (suc (tick / frame)) frame (k - (tick - tick % frame + frame)) (omega arith)

-- of a tick in the same frame the frame has the same number
pub number_here : (frame tick k : ℕ) → 0 < frame → tick - tick % frame ≤ k → k < tick - tick % frame + frame → k / frame ≡ tick / frame
number_here frame tick k positive from to =
    let split = div-add-mod' tick frame in
    let same : k ≡ tick / frame * frame + (k - (tick - tick % frame)) = omega arith in
    ap (λ x. x / frame) same ∙ div-mul-add (tick / frame) frame (k - (tick - tick % frame)) (omega arith)
