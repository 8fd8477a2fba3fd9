-- A system that goes on to a first tick, and then to a later one.
use Rattle.std.proofs.Common.{◌≡◌, ℕ, ◌≤◌, max, ap, ◌∙◌, arith}
use Rattle.ptk_system.specs.World.{World, at_tick}

pub goes_on : (first now last : World) (from to : ℕ) → from ≤ to → now ≡ at_tick from first → last ≡ at_tick (max now.tick to) now → last ≡ at_tick to first
goes_on first now last from to le begun run =
    let tick : now.tick ≡ from = ap (λ (w : World). w.tick) begun in
    let end : max now.tick to ≡ to = omega (arith, tick, le) in
    run ∙ ap (λ (k : ℕ). at_tick k now) end ∙ ap (at_tick to) begun
