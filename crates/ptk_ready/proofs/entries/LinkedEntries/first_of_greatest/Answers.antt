use Rattle.std.proofs.Common.{◌<◌, length, sym, ◌∙◌, ap, subst, arith}
use Rattle.std.specs.Prelude.{None}
use Rattle.std.proofs.lemmas.List.{get_or_default}
use Rattle.ptk_threads.specs.declared.link.Ends.{Ends}
use Rattle.ptk_threads.specs.Links.{links_of, no_ends, first_or, queues}
use Rattle.ptk_threads.proofs.Lists.{list_at}
use Rattle.ptk_ready.specs.Bits.{IsGreatestBit}
use Rattle.ptk_ready.proofs.Firsts.{first_found, none_found}
use Rattle.ptk_ready.proofs.entries.LinkedEntries.first_of_greatest.Goals as goal

pub returns-in-Some : goal.returns-in-Some
returns-in-Some g c =
    let links = links_of c.args.slots.now in
    let top = subst (IsGreatestBit c.args.self.now.bitmap) c.in-Some.is c.greatest_bit.ensures in
    let lt : c.in-Some.i < length c.args.ends.now = omega (arith, top.0, c.requires.places.1) in
    ap (λ (e : Ends). e.first) (get_or_default c.args.ends.now c.in-Some.i c.index-ends-i.result no_ends lt)
    ∙ ((c.requires.queues.each c.in-Some.i).first ∙ (ap (first_or None) (sym (list_at links c.args.ends.now c.in-Some.i))
    ∙ first_found g.row.LIMIT c.args.self.now.range (queues links c.args.ends.now) c.args.stored.now c.args.self.now.stamps c.args.self.now.bitmap c.in-Some.i c.requires.sound top))

pub returns-in-None : goal.returns-in-None
returns-in-None g c =
    none_found g.row.LIMIT c.args.self.now.range (queues (links_of c.args.slots.now) c.args.ends.now) c.args.stored.now c.args.self.now.stamps c.args.self.now.bitmap c.requires.sound
    (subst (IsGreatestBit c.args.self.now.bitmap) c.in-None.is c.greatest_bit.ensures)
