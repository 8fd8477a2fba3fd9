use Rattle.std.proofs.Common.{◌≡◌, ◌≤◌, ◌*◌, ◌++◌, drop, length}
use Rattle.ptk_threads.specs.Queues.{free_parts}
use Rattle.ptk_threads.proofs.slot_table.free_slots.Given as goal

-- the partitions so far and those to come are all
abbrev pub invariant-loop-count : goal.invariant-loop-count
invariant-loop-count l = record {
  told : l.slots ++ free_parts l.first (drop l.count-index l.counts) ≡ free_parts 0 l.counts;
  parts : length l.slots ≡ l.count-index;
  small : l.first ≤ l.count-index * 32;
}
