use Rattle.std.proofs.Common.{ℕ, ◌≤◌, refl, sym, ◌∙◌, subst, arith}
use Rattle.ptk_words.specs.declared.sections.Limits.{Limits}
use Rattle.ptk_words_model.specs.State.{Part}
use Rattle.ptk_gate_steps.specs.QuietStops.{quiet_stop}
use Rattle.ptk_gate_steps.proofs.QuietStops.{stop_le, quiet_up, quiet_no_later}
use Rattle.ptk_gate_steps.proofs.quiet_stops.chosen_thread.Goals as goal

pub returns-then-ticks-clause-quiet : goal.returns-then-ticks-clause-quiet
returns-then-ticks-clause-quiet c =
    let limits : Limits = c.args.look.now.limits in
    let s : Part = c.args.look.now.part in
    let up : quiet_stop limits c.args.tick c.args.thread.now s c.args.stop ≤ c.args.stop = stop_le limits c.args.tick c.args.stop c.args.thread.now s in (
      refl,
      omega (arith, c.if-ticks.true, c.ticks.ensures, c.ticks-2.ensures),
      subst (λ (n : ℕ). n ≤ c.args.stop) (sym c.stop_of-stop.ensures) up,
      quiet_up limits c.args.tick c.args.stop c.stop_of-stop.result c.args.t c.args.thread.now s c.requires.active c.requires.well c.requires.gate c.requires.runs c.requires.in_use
          (sym c.is_to_unwind.ensures ∙ c.if-is_to_unwind.false) c.requires.stays c.stop_of-stop.ensures,
    )

pub returns-then-ticks-clause-full : goal.returns-then-ticks-clause-full
returns-then-ticks-clause-full c = λ k after le quiet.
    subst (λ (n : ℕ). k ≤ n) (sym c.stop_of-stop.ensures)
    (quiet_no_later c.args.look.now.limits c.args.tick c.args.stop k c.args.t c.args.thread.now c.args.look.now.part quiet le)

pub returns-else-ticks-clause-full : goal.returns-else-ticks-clause-full
returns-else-ticks-clause-full c = λ k after le quiet.
    let up : k ≤ c.stop_of-stop.result =
    subst (λ (n : ℕ). k ≤ n) (sym c.stop_of-stop.ensures)
    (quiet_no_later c.args.look.now.limits c.args.tick c.args.stop k c.args.t c.args.thread.now c.args.look.now.part quiet le)
    in
    omega (arith, up, after, c.if-ticks.false, c.ticks.ensures, c.ticks-2.ensures)
