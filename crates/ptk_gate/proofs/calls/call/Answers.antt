use Rattle.std.proofs.Common.{rules, arith}
use Rattle.ptk_gate_pools.proofs.Hands.{lifting}
use Rattle.ptk_gate.proofs.Called.{whole_calls}
use Rattle.ptk_gate.proofs.calls.call.Goals as goal

pub make_call-requires-clause-running : goal.make_call-requires-clause-running
make_call-requires-clause-running c = search rules

pub returns-clause-told : goal.returns-clause-told
returns-clause-told c = search rules

pub returns-clause-moved : goal.returns-clause-moved
returns-clause-moved c = grind (arith, lifting, whole_calls)
