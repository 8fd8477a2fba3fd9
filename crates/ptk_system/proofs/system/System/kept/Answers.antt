use Rattle.ptk_system.proofs.Keeping.{state_kept}
use Rattle.ptk_system.proofs.system.System.kept.Goals as goal

pub returns-clause-states : goal.returns-clause-states
returns-clause-states c = state_kept c.self.inside.config.now c.self.inside.files.now c.self.inside.machine c.self.inside.tick c.args.self.now c.self.invariant c.self.view_is
