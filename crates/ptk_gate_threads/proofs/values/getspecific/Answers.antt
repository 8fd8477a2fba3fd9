use Rattle.ptk_gate_threads.proofs.values.getspecific.Goals as goal

-- the value stands under a λ in the part that is left
pub returns-clause-moved : goal.returns-clause-moved
returns-clause-moved c = rw (← c.value_of-value.ensures) c.succeed_with.ensures.moved
