use Rattle.ptk_system.proofs.OwnDecisions.{apart_steps}
use Rattle.ptk_system.proofs.laws.steps_are_apart.Goals as goal

pub returns : goal.returns
returns c = apart_steps c.args.system.now c.args.p c.args.q c.states_are_alone.ensures.configured c.requires
