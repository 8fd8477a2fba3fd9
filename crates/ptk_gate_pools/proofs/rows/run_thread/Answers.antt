use Rattle.std.proofs.Common.{rules}
use Rattle.ptk_gate_pools.proofs.rows.run_thread.Goals as goal

pub returns-in-Fifo-clause-last : goal.returns-in-Fifo-clause-last
returns-in-Fifo-clause-last c = search rules

pub returns-in-RoundRobin-clause-last : goal.returns-in-RoundRobin-clause-last
returns-in-RoundRobin-clause-last c = search rules

pub returns-in-RoundRobin-clause-thread : goal.returns-in-RoundRobin-clause-thread
returns-in-RoundRobin-clause-thread c = search rules

pub returns-in-Fifo-clause-thread : goal.returns-in-Fifo-clause-thread
returns-in-Fifo-clause-thread c = search rules
