-- A system that goes on.
use Rattle.std.proofs.Common.{◌≡◌, ℕ, ◌≤◌, max, refl, sym, ap, ◌∙◌, arith}
use Rattle.ptk_system.specs.World.{World, at_tick}
use Rattle.ptk_tracepoints.specs.Position.{GoesOn}

pub stays : (world : World) (stop : ℕ) → world ≡ at_tick world.tick world → GoesOn world stop world
stays world stop is = record { run = is; config = refl; from = omega arith; within = omega arith }

pub goes_on : (first now next : World) (stop : ℕ) → GoesOn first stop now → GoesOn now stop next → GoesOn first stop next
goes_on first now next stop was is = record {
  run = is.run ∙ ap (at_tick next.tick) was.run;
  config = is.config ∙ was.config;
  from = omega (arith, was.from, is.from);
  within = omega (arith, was.within, is.within);
}

pub sooner : (first now : World) (stop to : ℕ) → stop ≤ to → GoesOn first stop now → GoesOn first to now
sooner first now stop to le is = record { run = is.run; config = is.config; from = is.from; within = omega (arith, is.within, le) }

pub by_row : (first now : World) (stop : ℕ) → first.tick ≤ now.tick → now.tick ≤ max first.tick stop → now ≡ at_tick now.tick first → GoesOn first stop now
by_row first now stop from within run = record { run = run; config = ap (λ (w : World). w.config) run; from = from; within = within }

pub runs_to : (first now : World) (n stop : ℕ) → now ≡ at_tick (max first.tick n) first → n ≤ stop → GoesOn first stop now
runs_to first now n stop run le =
    let tick : now.tick ≡ max first.tick n = ap (λ (w : World). w.tick) run in
    record {
      run = run ∙ ap (λ (k : ℕ). at_tick k first) (sym tick);
      config = ap (λ (w : World). w.config) run;
      from = omega (arith, tick);
      within = omega (arith, tick, le);
    }

-- and at last to the end
pub ends_at : (first now last : World) (to : ℕ) → GoesOn first to now → last ≡ at_tick (max now.tick to) now → last ≡ at_tick (max first.tick to) first
ends_at first now last to was run =
    let tick : max now.tick to ≡ max first.tick to = omega (arith, was.from, was.within) in
    run ∙ ap (λ (k : ℕ). at_tick k now) tick ∙ ap (at_tick (max first.tick to)) was.run
