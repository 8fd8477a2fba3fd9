use Rattle.std.proofs.Common.{◌≡◌, ℕ, ◌<◌, length, get_or, pos}
use Rattle.ptk_threads.specs.Links.{links_of}
use Rattle.ptk_ready.specs.Stamps.{rank}
use Rattle.ptk_ready.proofs.stamps.renumbered.Given as goal

abbrev pub invariant-loop-i : goal.invariant-loop-i
invariant-loop-i l = record {
  long : length l.new ≡ 32;
  told : (j : ℕ) → j < l.i → get_or l.new j (pos 0) ≡ pos (rank (links_of l.slots) l.stamps (get_or l.stamps j (pos 0)));
}
