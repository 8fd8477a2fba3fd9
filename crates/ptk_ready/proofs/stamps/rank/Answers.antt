use Rattle.std.proofs.Common.{◌≡◌, suc, refl, add-zero, ◌∙◌, rules, arith, get_or, pos, w64, to_z, of_z, FitsSigned}
use Rattle.std.specs.Prelude.{int_lt, ◌&&◌, option_map}
use Rattle.std.proofs.lemmas.Int.{to_z-of_z}
use Rattle.ptk_threads.specs.Links.{links_of, place_of}
use Rattle.ptk_ready.specs.Entries.{is_ready, is_ready_place, stamp_of}
use Rattle.ptk_ready.proofs.Ranks.{read_ready, rank_more, count_small}
use Rattle.ptk_ready.proofs.stamps.rank.Goals as goal
use Rattle.ptk_ready.proofs.stamps.rank.Goals.{then-is_ready_before, else-is_ready_before}

pub overflow_add-count : goal.overflow_add-count
overflow_add-count c =
    let small = count_small (is_ready (links_of c.args.slots.now)) (λ k. int_lt (stamp_of c.args.stamps.now k) (to_z w64 (of_z w64 c.args.stamp))) c.loop-i.i in
    omega (arith, small, c.loop-i.invariant, c.requires, c.loop-i-test.true)

pub loop-i-preserved : goal.loop-i-preserved
loop-i-preserved c =
    let links = links_of c.args.slots.now in
    let stamp = to_z w64 (of_z w64 c.args.stamp) in
    let read : FitsSigned w64 (get_or c.args.stamps.now c.loop-i.i (pos 0)) = search rules in
    let ready : is_ready_place (option_map place_of c.index-slots-i.result.link.queue) ≡ is_ready links (suc c.loop-i.i) =
    read_ready c.args.slots.now c.loop-i.i c.index-slots-i.result _ c.loop-i-test.true c.index-slots-i.is refl in
    let own = rw (to_z-of_z w64 (get_or c.args.stamps.now c.loop-i.i (pos 0)) read) at c.is_ready_before.ensures in
    let tested : c.is_ready_before.result ≡ (is_ready links (suc c.loop-i.i) && int_lt (stamp_of c.args.stamps.now (suc c.loop-i.i)) stamp) = rw ready at own in
    let more = rank_more links c.args.stamps.now stamp c.loop-i.i c.loop-i.count c.is_ready_before.result c.loop-i.invariant tested in
    elim c.if-is_ready_before.branch [ then-is_ready_before w ↦ w.count-is ∙ (rw w.if-is_ready_before.true at more) | else-is_ready_before w ↦ w.count-is ∙ (rw (add-zero) at (rw w.if-is_ready_before.false at more)) ]
