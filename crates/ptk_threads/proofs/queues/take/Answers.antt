use Rattle.std.proofs.Common.{get_or, refl, sym, ◌≡◌, ap, ◌∙◌}
use Rattle.std.specs.Prelude.{None, option_map}
use Rattle.ptk_threads.specs.declared.link.Link.{Link}
use Rattle.ptk_threads.specs.Links.{links_of, place_of, mark_of, own_link}
use Rattle.ptk_threads.proofs.Lists.{mark_is}
use Rattle.ptk_threads.proofs.LinkSlots.{link_read}
use Rattle.ptk_threads.proofs.queues.take.Goals as goal

pub leave-requires-clause-own : goal.leave-requires-clause-own
leave-requires-clause-own c = link_read c.args.slots.now c.args.k c.place-place.result c.index-slots-place.result c.place-place.ensures.value c.place-place.ensures.positive c.if-place-slots.false c.index-slots-place.is

pub returns-in-Some-clause-lists : goal.returns-in-Some-clause-lists
returns-in-Some-clause-lists c =
    let link = link_read c.args.slots.now c.args.k c.place-place.result c.index-slots-place.result c.place-place.ensures.value c.place-place.ensures.positive c.if-place-slots.false c.index-slots-place.is in
    let mark = mark_is (links_of c.args.slots.now) (place_of c.in-Some.name) c.args.k c.in-Some.name (own_link (get_or c.args.slots.now c.place-place.result c.index-slots-place.result).link) refl link c.in-Some.is in
    rw mark c.leave.ensures.lists

pub returns-in_default-clause-lists : goal.returns-in_default-clause-lists
returns-in_default-clause-lists c =
    let link = link_read c.args.slots.now c.args.k c.place-place.result c.index-slots-place.result c.place-place.ensures.value c.place-place.ensures.positive c.if-place-slots.false c.index-slots-place.is in
    let mark : mark_of (links_of c.args.slots.now) c.args.k ≡ None = ap (λ (l : Link). option_map place_of l.queue) (sym link) ∙ ap (option_map place_of) c.in_default.is in
    rw mark refl
