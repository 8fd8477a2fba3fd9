use Rattle.std.proofs.Common.{◌≡◌, ◌≢◌, ◌<◌, length, arith, get_or, rules, true}
use Rattle.ptk_threads.specs.Links.{links_of, place_of}
use Rattle.ptk_threads.proofs.Lists.{stays_elsewhere, stays_unmarked}
use Rattle.ptk_threads.proofs.LinkSlots.{link_read}
use Rattle.ptk_threads.proofs.queues.take_from.Goals as goal

pub leave-requires-clause-own : goal.leave-requires-clause-own
leave-requires-clause-own c =
    let lt : c.place.result < length c.args.slots.now = omega (arith, c.place.ensures.value, c.place.ensures.positive, c.requires.slot) in
    link_read c.args.slots.now c.args.k c.place.result c.index-slots-place.result c.place.ensures.value c.place.ensures.positive lt c.index-slots-place.is

pub returns-else-eq-clause-lists : goal.returns-else-eq-clause-lists
returns-else-eq-clause-lists c =
    let lt : c.place.result < length c.args.slots.now = omega (arith, c.place.ensures.value, c.place.ensures.positive, c.requires.slot) in
    let link = link_read c.args.slots.now c.args.k c.place.result c.index-slots-place.result c.place.ensures.value c.place.ensures.positive lt c.index-slots-place.is in
    let ne : c.in-Some.own ≢ c.args.name = λ e. (let told = c.eq.ensures in let some : c.eq.result ≡ true = search rules in absurd (cc)) in
    stays_elsewhere (links_of c.args.slots.now) c.args.ends.now c.args.k c.args.name c.in-Some.own (get_or c.args.slots.now c.place.result c.index-slots-place.result).link c.requires.queues
    c.place-in-Some.ensures.named c.place-in-Some-2.ensures.named link c.in-Some.is ne

pub returns-in_default-clause-lists : goal.returns-in_default-clause-lists
returns-in_default-clause-lists c =
    let lt : c.place.result < length c.args.slots.now = omega (arith, c.place.ensures.value, c.place.ensures.positive, c.requires.slot) in
    let link = link_read c.args.slots.now c.args.k c.place.result c.index-slots-place.result c.place.ensures.value c.place.ensures.positive lt c.index-slots-place.is in
    stays_unmarked (links_of c.args.slots.now) c.args.ends.now c.args.k (place_of c.args.name) (get_or c.args.slots.now c.place.result c.index-slots-place.result).link c.requires.queues link c.in_default.is
