use Rattle.std.proofs.Common.{ap}
use Rattle.ptk_words.specs.declared.threads.Thread.{Thread}
use Rattle.ptk_gate_pools.proofs.rows.run_at.Goals as goal

-- a row leaves the thread's wait
pub work_on-requires-clause-waits : goal.work_on-requires-clause-waits
work_on-requires-clause-waits c = λ after answer thread made has. ap (λ (x : Thread). x.wait) has.left
