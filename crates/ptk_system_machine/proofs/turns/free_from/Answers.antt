use Rattle.ptk_system_machine.proofs.turns.free_from.Goals as goal

pub returns-in-Idle-clause-full : goal.returns-in-Idle-clause-full
returns-in-Idle-clause-full c = λ k is within idle. c.idle_from.ensures.full k within idle
