use Rattle.std.proofs.Common.{◌≡◌, ◌-◌, suc, length}
use Rattle.std.specs.Prelude.{int_lt, find}
use Rattle.ptk_threads.specs.Links.{links_of, walk}
use Rattle.ptk_ready.specs.Entries.{stamp_of}
use Rattle.ptk_ready.proofs.places.first_after.Given as goal

-- what is left along the links has the same first one
abbrev pub invariant-loop : goal.invariant-loop
invariant-loop l =
    find (λ k. int_lt l.stamp (stamp_of l.stamps k)) (walk (suc (length l.slots) - l.counter) (links_of l.slots) l.at)
    ≡ find (λ k. int_lt l.stamp (stamp_of l.stamps k)) (walk (suc (length l.slots)) (links_of l.slots) l.fn.from)
