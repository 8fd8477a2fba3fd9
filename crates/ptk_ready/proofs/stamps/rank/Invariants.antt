use Rattle.std.proofs.Common.{◌≡◌}
use Rattle.std.specs.Prelude.{int_lt, filter, length}
use Rattle.ptk_words.specs.Pools.{numbers_to}
use Rattle.ptk_threads.specs.Links.{links_of}
use Rattle.ptk_ready.specs.Entries.{is_ready, stamp_of}
use Rattle.ptk_ready.proofs.stamps.rank.Given as goal

-- the ready threads of a lesser stamp among the first numbers
abbrev pub invariant-loop-i : goal.invariant-loop-i
invariant-loop-i l = l.count ≡ length (filter (λ k. int_lt (stamp_of l.stamps k) l.stamp) (filter (is_ready (links_of l.slots)) (numbers_to l.i)))
