use Rattle.std.proofs.Common.{◌≡◌, ◌≤◌, ◌*◌, ◌^◌, ◌++◌, drop, length}
use Rattle.ptk_words.specs.Cuts.{AreInTurn, ends_in, last_end, sums_from}
use Rattle.ptk_words.proofs.parted.extents_of.Given as goal

-- the ends so far and those to come are all
abbrev pub invariant-loop-length : goal.invariant-loop-length
invariant-loop-length l = record {
  in_turn : AreInTurn 0 l.extents;
  last : l.start ≡ last_end 0 (ends_in l.extents);
  told : ends_in l.extents ++ sums_from l.start (drop l.length-index l.lengths) ≡ sums_from 0 l.lengths;
  each : length l.extents ≡ l.length-index;
  small : l.start ≤ l.length-index * 2 ^ 32;
}
