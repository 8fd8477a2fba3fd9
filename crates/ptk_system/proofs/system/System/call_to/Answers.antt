use Rattle.std.proofs.Common.{◌≡◌, ◌<◌, length, subst, sym, ap, arith}
use Rattle.ptk_words_model.specs.Windows.{WindowPlan}
use Rattle.ptk_system_machine.specs.Whole.{AreWindowsOf}
use Rattle.ptk_system.specs.World.{World}
use Rattle.ptk_system.proofs.Going.{here_going, run_going}
use Rattle.ptk_system.proofs.Runs.{plain_told, run_behind, run_behind_call, run_on, run_seen, windows_known}
use Rattle.ptk_system.proofs.system.System.call_to.Goals as goal

pub run_call-self-inside-requires-clause-windows : goal.run_call-self-inside-requires-clause-windows
run_call-self-inside-requires-clause-windows c =
    subst (λ (t : WindowPlan). AreWindowsOf (length c.self.inside.machine.accounts) t) (sym c.plan-plan.ensures.value)
    (windows_known c.self.inside.config.now c.self.inside.files.now c.self.inside.machine c.self.inside.tick c.self.invariant)

pub run_call-self-inside-requires-clause-behind : goal.run_call-self-inside-requires-clause-behind
run_call-self-inside-requires-clause-behind c = run_behind c.self.inside.config.now c.self.inside.files.now c.self.inside.machine c.self.inside.tick c.self.invariant

pub invariant_of-self : goal.invariant_of-self
invariant_of-self c =
    run_on c.self.inside.config.now c.self.inside.files.now c.self.inside.machine c.run_call-self-inside.new.self c.self.inside.tick c.run_call-self-inside.result c.plan-plan.result.now c.self.invariant
    c.run_call-self-inside.ensures.from (omega (arith, c.run_call-self-inside.ensures.within, c.requires)) c.plan-plan.ensures.value
    c.run_call-self-inside.ensures.parts c.run_call-self-inside.ensures.limits c.run_call-self-inside.ensures.each

pub returns-clause-run : goal.returns-clause-run
returns-clause-run c =
    run_seen c.args.self.now c.self.inside.config.now c.self.inside.files.now c.self.inside.machine c.run_call-self-inside.new.self c.self.inside.tick c.run_call-self-inside.result
    (run_on c.self.inside.config.now c.self.inside.files.now c.self.inside.machine c.run_call-self-inside.new.self c.self.inside.tick c.run_call-self-inside.result c.plan-plan.result.now c.self.invariant
    c.run_call-self-inside.ensures.from (omega (arith, c.run_call-self-inside.ensures.within, c.requires)) c.plan-plan.ensures.value
    c.run_call-self-inside.ensures.parts c.run_call-self-inside.ensures.limits c.run_call-self-inside.ensures.each)
    c.self.view_is

pub returns-clause-on : goal.returns-clause-on
returns-clause-on c = λ before plain.
    let at : c.self.inside.tick ≡ c.args.self.now.tick = ap (λ (w : World). w.tick) c.self.view_is in
    let on : c.self.inside.tick < c.run_call-self-inside.result =
    c.run_call-self-inside.ensures.on (omega (arith, at, before)) (plain_told c.self.inside.config.now c.self.inside.files.now c.self.inside.machine c.self.inside.tick c.args.self.now c.self.invariant c.self.view_is plain) in
    omega (arith, at, on)

pub returns-clause-steady : goal.returns-clause-steady
returns-clause-steady c =
    run_going c.self.inside.config.now c.self.inside.files.now c.self.inside.machine c.self.inside.tick c.run_call-self-inside.result c.plan-plan.result.now c.args.self.now c.self.invariant c.plan-plan.ensures.value c.self.view_is
    c.run_call-self-inside.ensures.steady

pub returns-then-ticks-clause-steady : goal.returns-then-ticks-clause-steady
returns-then-ticks-clause-steady c = here_going c.self.inside.config.now c.self.inside.files.now c.self.inside.machine c.self.inside.tick c.args.self.now c.self.invariant c.self.view_is

pub returns-clause-last : goal.returns-clause-last
returns-clause-last c =
    run_behind_call c.self.inside.config.now c.self.inside.files.now c.self.inside.machine c.self.inside.tick c.run_call-self-inside.result c.plan-plan.result.now c.args.self.now c.self.invariant c.plan-plan.ensures.value c.self.view_is
    c.run_call-self-inside.ensures.last

pub returns-then-ticks-clause-last : goal.returns-then-ticks-clause-last
returns-then-ticks-clause-last c = λ p lt k le less more entry last word. absurd (omega (arith, le, less))
