use Rattle.ptk_gate_moves.proofs.Locked.{locked}
use Rattle.std.proofs.Common.{rules, arith}
use Rattle.ptk_gate_threads.proofs.Endings.{left_in_use, left_fresh, left_free, left_apart, left_out, ended}
use Rattle.ptk_gate_threads.proofs.ends.end.Goals as goal

pub end_without_mutexes-requires-clause-in_use : goal.end_without_mutexes-requires-clause-in_use
end_without_mutexes-requires-clause-in_use c = search (rules, left_in_use)

pub end_without_mutexes-requires-clause-fresh : goal.end_without_mutexes-requires-clause-fresh
end_without_mutexes-requires-clause-fresh c = search (rules, left_fresh)

pub end_without_mutexes-requires-clause-free : goal.end_without_mutexes-requires-clause-free
end_without_mutexes-requires-clause-free c = search (rules, left_free)

pub end_without_mutexes-requires-clause-apart : goal.end_without_mutexes-requires-clause-apart
end_without_mutexes-requires-clause-apart c = search (rules, left_apart)

pub end_without_mutexes-requires-clause-out : goal.end_without_mutexes-requires-clause-out
end_without_mutexes-requires-clause-out c = search (rules, left_out)

pub returns : goal.returns
returns c = grind (arith, locked, ended)
