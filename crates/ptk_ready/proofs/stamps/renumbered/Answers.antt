use Rattle.std.proofs.Common.{◌≡◌, ap, ◌∙◌, rules, arith, get_or, pos, w64, to_z, of_z, FitsSigned}
use Rattle.std.proofs.lemmas.List.{length-set}
use Rattle.std.proofs.lemmas.Int.{to_z-of_z}
use Rattle.ptk_threads.specs.Links.{links_of}
use Rattle.ptk_ready.specs.Stamps.{rank}
use Rattle.ptk_ready.proofs.Ranks.{one_written, all_written}
use Rattle.ptk_ready.proofs.stamps.renumbered.Goals as goal

pub loop-i-preserved : goal.loop-i-preserved
loop-i-preserved c =
    let own = get_or c.args.stamps.now c.loop-i.i (pos 0) in
    let links = links_of c.args.slots.now in
    let read : FitsSigned w64 (get_or c.args.stamps.now c.loop-i.i (pos 0)) = search rules in
    let fits : FitsSigned w64 c.from.result = search rules in
    let written : to_z w64 (of_z w64 c.from.result) ≡ pos (rank links c.args.stamps.now own) =
    to_z-of_z w64 c.from.result fits ∙ c.from.ensures ∙ ap pos c.rank.ensures ∙ ap (λ stamp. pos (rank links c.args.stamps.now stamp)) (to_z-of_z w64 own read) in
    record {
      long = length-set c.loop-i.new _ _ ∙ c.loop-i.invariant.long;
      told = one_written c.loop-i.new c.args.stamps.now (λ stamp. pos (rank links c.args.stamps.now stamp)) c.loop-i.i (to_z w64 (of_z w64 c.from.result))
          (omega (arith, c.loop-i.invariant.long, c.loop-i-test.true)) written c.loop-i.invariant.told;
    }

pub returns : goal.returns
returns c =
    all_written c.loop-i.new c.args.stamps.now (λ stamp. pos (rank (links_of c.args.slots.now) c.args.stamps.now stamp)) 32 c.loop-i.invariant.long c.told-stamps
    (λ j lt. c.loop-i.invariant.told j (omega (arith, lt, c.loop-i-test.false)))
