use Rattle.std.proofs.Common.{◌<◌, length, ap, arith}
use Rattle.std.proofs.Math.ListN.{set}
use Rattle.std.proofs.lemmas.List.{get_or_read}
use Rattle.ptk_threads.specs.Links.{links_of, no_ends}
use Rattle.ptk_threads.proofs.LinkSlots.{links_count}
use Rattle.ptk_threads.proofs.Lists.{first_within, first_went}
use Rattle.ptk_threads.proofs.queues.take_first.Goals as goal

pub take_next-next-requires : goal.take_next-next-requires
take_next-next-requires c =
    let lt : c.place-i.result < length c.args.ends.now = omega (arith, c.place-i.ensures.in_range, c.requires.places) in
    rw (← links_count c.args.slots.now) (first_within (links_of c.args.slots.now) c.args.ends.now c.place-i.result c.in-Some.thread _ c.requires.queues (get_or_read c.args.ends.now c.place-i.result _ lt c.index-ends-i.is no_ends) c.in-Some.is)

pub returns-clause-first : goal.returns-clause-first
returns-clause-first c =
    let lt : c.place-i.result < length c.args.ends.now = omega (arith, c.place-i.ensures.in_range, c.requires.places) in
    rw (← c.place-i.ensures.value) ((first_went (links_of c.args.slots.now) _ _ c.args.ends.now _ c.place-i.result c.in-Some.thread _ c.take_next-next.result c.is_none-is_alone.result c.requires.queues lt
    (get_or_read c.args.ends.now c.place-i.result _ lt c.index-ends-i.is no_ends) c.in-Some.is c.take_next-next.ensures.next c.is_none-is_alone.ensures
    c.take_next-next.ensures.links c.set_previous.ensures.links (ap (set c.args.ends.now c.place-i.result) c.without_first.ensures)).1)

pub returns-clause-queues : goal.returns-clause-queues
returns-clause-queues c =
    let lt : c.place-i.result < length c.args.ends.now = omega (arith, c.place-i.ensures.in_range, c.requires.places) in
    ((first_went (links_of c.args.slots.now) _ _ c.args.ends.now _ c.place-i.result c.in-Some.thread _ c.take_next-next.result c.is_none-is_alone.result c.requires.queues lt
    (get_or_read c.args.ends.now c.place-i.result _ lt c.index-ends-i.is no_ends) c.in-Some.is c.take_next-next.ensures.next c.is_none-is_alone.ensures
    c.take_next-next.ensures.links c.set_previous.ensures.links (ap (set c.args.ends.now c.place-i.result) c.without_first.ensures)).0).sound

pub returns-clause-lists : goal.returns-clause-lists
returns-clause-lists c =
    let lt : c.place-i.result < length c.args.ends.now = omega (arith, c.place-i.ensures.in_range, c.requires.places) in
    rw (← c.place-i.ensures.value) (((first_went (links_of c.args.slots.now) _ _ c.args.ends.now _ c.place-i.result c.in-Some.thread _ c.take_next-next.result c.is_none-is_alone.result c.requires.queues lt
    (get_or_read c.args.ends.now c.place-i.result _ lt c.index-ends-i.is no_ends) c.in-Some.is c.take_next-next.ensures.next c.is_none-is_alone.ensures
    c.take_next-next.ensures.links c.set_previous.ensures.links (ap (set c.args.ends.now c.place-i.result) c.without_first.ensures)).0).lists)
