use Rattle.std.proofs.Common.{◌≤◌, sym, ◌∙◌, ap, subst}
use Rattle.std.specs.Prelude.{ℕ}
use Rattle.ptk_words.specs.declared.sections.Limits.{Limits}
use Rattle.ptk_words_model.specs.State.{Part}
use Rattle.ptk_words.specs.Faults.{is_active}
use Rattle.ptk_words_laws.specs.Idle.{IsIdle}
use Rattle.ptk_gate_steps.proofs.QuietStops.{event_stop_le}
use Rattle.ptk_gate_steps.proofs.IdleStops.{idle_up, idle_no_later}
use Rattle.ptk_gate_steps.proofs.idle_stops.stays_idle_until.Goals as goal

pub returns-in-None-clause-idle : goal.returns-in-None-clause-idle
returns-in-None-clause-idle c =
    let limits : Limits = c.args.look.now.limits in
    let s : Part = c.args.look.now.part in
    subst (λ (n : ℕ). (n ≤ c.args.stop) × IsIdle n s) (sym c.before_events.ensures) (
      event_stop_le c.args.stop s,
      idle_up limits c.args.stop s (ap is_active (sym c.status.ensures ∙ c.in-Active.is)) c.requires.well (sym c.running.ensures ∙ c.in-None.is) (sym c.has_ready.ensures ∙ c.if-not-has_ready.true),
    )

pub returns-in-None-clause-full : goal.returns-in-None-clause-full
returns-in-None-clause-full c = λ k le idle.
    subst (λ (n : ℕ). k ≤ n) (sym c.before_events.ensures) (idle_no_later c.args.stop k c.args.look.now.part idle le)
