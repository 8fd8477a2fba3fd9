use Rattle.std.proofs.Common.{◌<◌, length, sym, arith}
use Rattle.ptk_threads.specs.Links.{links_of}
use Rattle.ptk_threads.proofs.LinkSlots.{links_long}
use Rattle.ptk_threads.proofs.Lists.{inserted, mark_is}
use Rattle.ptk_threads.proofs.queues.insert.Goals as goal

pub returns-in-Some-clause-queues : goal.returns-in-Some-clause-queues
returns-in-Some-clause-queues c =
    let lt : c.place-i.result < length c.args.ends.now = omega (arith, c.place-i.ensures.in_range, c.requires.places) in
    (inserted (links_of c.args.slots.now) _ c.args.ends.now _ c.place-i.result c.args.k c.args.before _ c.link_of-link.result c.requires.queues lt c.link_between.ensures.positive
    (links_long c.args.slots.now c.args.k c.requires.slot) c.requires.free (sym c.place-i.ensures.value) c.link_of-link.ensures c.in-Some.is
    c.link_between.ensures.links c.link_between.ensures.ends).sound

pub returns-in-Some-clause-lists : goal.returns-in-Some-clause-lists
returns-in-Some-clause-lists c =
    let lt : c.place-i.result < length c.args.ends.now = omega (arith, c.place-i.ensures.in_range, c.requires.places) in
    let mark = mark_is (links_of c.args.slots.now) c.place-i.result c.args.before _ c.link_of-link.result (sym c.place-i.ensures.value) c.link_of-link.ensures c.in-Some.is in
    rw mark ((inserted (links_of c.args.slots.now) _ c.args.ends.now _ c.place-i.result c.args.k c.args.before _ c.link_of-link.result c.requires.queues lt c.link_between.ensures.positive
    (links_long c.args.slots.now c.args.k c.requires.slot) c.requires.free (sym c.place-i.ensures.value) c.link_of-link.ensures c.in-Some.is
    c.link_between.ensures.links c.link_between.ensures.ends).lists)
