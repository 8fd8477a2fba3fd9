use Rattle.ptk_system.proofs.Keeping.{alone_told, state_alone, states_counted}
use Rattle.ptk_system.proofs.system.System.states_are_alone.Goals as goal

pub returns-clause-count : goal.returns-clause-count
returns-clause-count c =
    states_counted c.args.self.now (alone_told c.self.inside.config.now c.self.inside.files.now c.self.inside.machine c.self.inside.tick c.args.self.now c.self.invariant c.self.view_is)

pub returns-clause-alone : goal.returns-clause-alone
returns-clause-alone c = λ p lt.
    state_alone c.args.self.now p (alone_told c.self.inside.config.now c.self.inside.files.now c.self.inside.machine c.self.inside.tick c.args.self.now c.self.invariant c.self.view_is) lt

pub returns-clause-all : goal.returns-clause-all
returns-clause-all c = alone_told c.self.inside.config.now c.self.inside.files.now c.self.inside.machine c.self.inside.tick c.args.self.now c.self.invariant c.self.view_is
