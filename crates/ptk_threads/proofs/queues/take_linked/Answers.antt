use Rattle.std.proofs.Common.{◌<◌, length, sym, ◌∙◌, ap, arith}
use Rattle.ptk_threads.specs.declared.link.Link.{Link}
use Rattle.ptk_threads.specs.Links.{links_of}
use Rattle.ptk_threads.proofs.Lists.{went}
use Rattle.ptk_threads.proofs.queues.take_linked.Goals as goal

pub returns-clause-queues : goal.returns-clause-queues
returns-clause-queues c =
    let lt : c.place.result < length c.args.ends.now = omega (arith, c.place.ensures.in_range, c.requires.places) in
    (went (links_of c.args.slots.now) _ c.args.ends.now _ c.place.result c.args.k c.args.name c.link_of-link.result c.requires.queues lt
    (sym c.place.ensures.value) c.link_of-link.ensures (ap (λ (l : Link). l.queue) c.link_of-link.ensures ∙ c.requires.named) c.unlink.ensures.links c.unlink.ensures.ends).sound

pub returns-clause-lists : goal.returns-clause-lists
returns-clause-lists c =
    let lt : c.place.result < length c.args.ends.now = omega (arith, c.place.ensures.in_range, c.requires.places) in
    rw (← c.place.ensures.value) ((went (links_of c.args.slots.now) _ c.args.ends.now _ c.place.result c.args.k c.args.name c.link_of-link.result c.requires.queues lt
    (sym c.place.ensures.value) c.link_of-link.ensures (ap (λ (l : Link). l.queue) c.link_of-link.ensures ∙ c.requires.named) c.unlink.ensures.links c.unlink.ensures.ends).lists)
