use Rattle.std.proofs.Common.{◌≡◌, length, subst, sym, ap, arith}
use Rattle.ptk_words_model.specs.Windows.{WindowPlan}
use Rattle.ptk_system_machine.specs.Whole.{AreWindowsOf}
use Rattle.ptk_system.specs.World.{World}
use Rattle.ptk_system.proofs.Runs.{run_behind, run_on, run_seen, windows_known}
use Rattle.ptk_system.proofs.system.System.go_on.Goals as goal

pub run-requires-clause-windows : goal.run-requires-clause-windows
run-requires-clause-windows c =
    subst (λ (t : WindowPlan). AreWindowsOf (length c.self.inside.machine.accounts) t) (sym c.plan-plan.ensures.value)
    (windows_known c.self.inside.config.now c.self.inside.files.now c.self.inside.machine c.self.inside.tick c.self.invariant)

pub run-requires-clause-behind : goal.run-requires-clause-behind
run-requires-clause-behind c = run_behind c.self.inside.config.now c.self.inside.files.now c.self.inside.machine c.self.inside.tick c.self.invariant

pub invariant_of-self : goal.invariant_of-self
invariant_of-self c =
    let at : c.self.inside.tick ≡ c.args.self.now.tick = ap (λ (w : World). w.tick) c.self.view_is in
    run_on c.self.inside.config.now c.self.inside.files.now c.self.inside.machine c.run.new.self c.self.inside.tick c.args.n c.plan-plan.result.now c.self.invariant
    (omega (arith, at, c.requires.later)) c.requires.small c.plan-plan.ensures.value c.run.ensures.parts c.run.ensures.limits c.run.ensures.each

pub returns : goal.returns
returns c =
    let at : c.self.inside.tick ≡ c.args.self.now.tick = ap (λ (w : World). w.tick) c.self.view_is in
    run_seen c.args.self.now c.self.inside.config.now c.self.inside.files.now c.self.inside.machine c.run.new.self c.self.inside.tick c.args.n
    (run_on c.self.inside.config.now c.self.inside.files.now c.self.inside.machine c.run.new.self c.self.inside.tick c.args.n c.plan-plan.result.now c.self.invariant
    (omega (arith, at, c.requires.later)) c.requires.small c.plan-plan.ensures.value c.run.ensures.parts c.run.ensures.limits c.run.ensures.each)
    c.self.view_is
