use Rattle.std.proofs.Common.{◌≡◌, length}
use Rattle.ptk_threads.specs.Table.{free_table}
use Rattle.ptk_unit_tests.proofs.ready_lines.table.Given as goal

abbrev pub invariant-loop : goal.invariant-loop
invariant-loop l = record {
  queues : l.threads.queues ≡ (free_table l.counts).queues;
  parts : length l.threads.threads ≡ length l.counts;
}
