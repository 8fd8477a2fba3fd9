-- Plain steps in a row as work on their thread.
use Rattle.std.specs.Prelude.{◌≡◌, ℕ, ◌+◌, ◌^◌, ◌<◌, ◌≤◌, length, slice_set, false}
use Rattle.ptk_words.specs.declared.threads.Thread.{Thread}
use Rattle.ptk_words.specs.Parts.{part_of}
use Rattle.ptk_words_model.specs.PlainSteps.{core, is_plain, plain_steps}
use Rattle.ptk_gate_memory.specs.Quiet.{ArePlain, computed, last_after}
use Rattle.ptk_gate_memory.specs.TracedRows.{traced}
use Rattle.ptk_gate_pools.specs.declared.rows.PlainRow.{PlainRow}

-- the partition has a memory, the ticks of the row are numbers of 64 bits, and those that the thread used of its interval are of 32 (own)
pub record MayRun (row : PlainRow) (thread : Thread) : Type 0 where
  pub partition : row.p < length row.memories.now
  pub time : row.tick < 2 ^ 63
  pub room : thread.used + row.most < 2 ^ 32

-- this many steps, all plain, have made this of the thread, and have been counted in memory, trace and last step (own)
pub record HasRun (row : PlainRow) (thread : Thread) (steps : ℕ) (after : PlainRow) (made : Thread) : Type 0 where
  pub few : steps ≤ row.most
  pub plain : ArePlain steps (core thread.cpu (part_of row.memories.now row.p))
  pub left : made ≡ computed steps (plain_steps steps (core thread.cpu (part_of row.memories.now row.p))).cpu thread
  pub memory : after.memories.now ≡ slice_set row.memories.now row.p (plain_steps steps (core thread.cpu (part_of row.memories.now row.p))).memory
  pub traced : after.trace.now ≡ traced row.tick row.t steps (core thread.cpu (part_of row.memories.now row.p)) row.trace.now
  pub last : after.last.now ≡ last_after row.tick row.t steps (core thread.cpu (part_of row.memories.now row.p)) row.last.now
  pub ended : steps < row.most → is_plain (plain_steps steps (core thread.cpu (part_of row.memories.now row.p))) ≡ false
  -- the row writes where it was given to write
  pub same_memory : after.memories.ghost_name ≡ row.memories.ghost_name
  pub same_trace : after.trace.ghost_name ≡ row.trace.ghost_name
  pub same_last : after.last.ghost_name ≡ row.last.ghost_name
