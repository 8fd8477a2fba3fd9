-- The registers of a thread written in part.
use Rattle.std.specs.Prelude.{ℕ}
use Rattle.ptk_words.specs.declared.threads.Thread.{Thread}

-- the thread that goes on at this address (RISC-V 2.1)
abbrev pub with_pc : ℕ → Thread → Thread
with_pc pc thread = record thread { cpu = record thread.cpu { pc = pc } }
