use Rattle.std.proofs.Common.{◌≡◌, ◌+◌, ◌-◌, suc, length, false, ◌∙◌, ap, arith, w64, to_z, of_z}
use Rattle.std.specs.Prelude.{int_lt}
use Rattle.std.proofs.lemmas.Int.{ints}
use Rattle.ptk_threads.specs.declared.link.Link.{Link}
use Rattle.ptk_threads.specs.Links.{links_of}
use Rattle.ptk_ready.specs.Entries.{stamp_of}
use Rattle.ptk_ready.proofs.Filed.{walk_on}
use Rattle.ptk_ready.proofs.places.first_after.Goals as goal

pub loop-preserved : goal.loop-preserved
loop-preserved c =
    let fails : int_lt (to_z w64 (of_z w64 c.args.stamp)) (stamp_of c.args.stamps.now c.in-Some.k) ≡ false = grind (arith, ints) in
    let left : suc (length c.args.slots.now) - c.loop.counter ≡ suc (suc (length c.args.slots.now) - (c.loop.counter + 1)) = omega (arith, c.loop-test.true) in
    walk_on (λ k. int_lt (to_z w64 (of_z w64 c.args.stamp)) (stamp_of c.args.stamps.now k)) _ _ (links_of c.args.slots.now) c.loop.at c.in-Some.k c.link_of-link.result.next left c.in-Some.is fails
    (ap (λ (l : Link). l.next) c.link_of-link.ensures)
    ∙ c.loop.invariant
