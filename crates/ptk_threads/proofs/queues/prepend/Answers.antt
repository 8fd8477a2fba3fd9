use Rattle.std.proofs.Common.{◌<◌, length, sym, arith}
use Rattle.std.proofs.lemmas.List.{get_or_read}
use Rattle.ptk_threads.specs.Links.{links_of, no_ends}
use Rattle.ptk_threads.proofs.LinkSlots.{links_long}
use Rattle.ptk_threads.proofs.Lists.{prepended}
use Rattle.ptk_threads.proofs.queues.prepend.Goals as goal

pub returns-clause-queues : goal.returns-clause-queues
returns-clause-queues c =
    let lt : c.place-i.result < length c.args.ends.now = omega (arith, c.place-i.ensures.in_range, c.requires.places) in
    (prepended (links_of c.args.slots.now) _ c.args.ends.now _ c.place-i.result c.args.k c.args.name c.index-ends-i.result c.requires.queues lt c.link_between.ensures.positive
    (links_long c.args.slots.now c.args.k c.requires.slot) c.requires.free (sym c.place-i.ensures.value) (get_or_read c.args.ends.now c.place-i.result _ lt c.index-ends-i.is no_ends)
    c.link_between.ensures.links c.link_between.ensures.ends).sound

pub returns-clause-lists : goal.returns-clause-lists
returns-clause-lists c =
    let lt : c.place-i.result < length c.args.ends.now = omega (arith, c.place-i.ensures.in_range, c.requires.places) in
    rw (← c.place-i.ensures.value) ((prepended (links_of c.args.slots.now) _ c.args.ends.now _ c.place-i.result c.args.k c.args.name c.index-ends-i.result c.requires.queues lt c.link_between.ensures.positive
    (links_long c.args.slots.now c.args.k c.requires.slot) c.requires.free (sym c.place-i.ensures.value) (get_or_read c.args.ends.now c.place-i.result _ lt c.index-ends-i.is no_ends)
    c.link_between.ensures.links c.link_between.ensures.ends).lists)
