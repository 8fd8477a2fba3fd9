use Rattle.std.proofs.Common.{◌<◌, length, sym, ◌∙◌, ap, arith}
use Rattle.std.proofs.Math.ListN.{set}
use Rattle.ptk_words.specs.Pools.{pool_set}
use Rattle.ptk_threads.specs.Links.{links_of}
use Rattle.ptk_threads.proofs.Lists.{alone_went}
use Rattle.ptk_threads.proofs.queues.leave.Goals as goal

pub returns-then-is_none-2-clause-queues : goal.returns-then-is_none-2-clause-queues
returns-then-is_none-2-clause-queues c =
    let lt : c.place.result < length c.args.ends.now = omega (arith, c.place.ensures.in_range, c.requires.places) in
    (alone_went (links_of c.args.slots.now) _ c.args.ends.now _ c.place.result c.args.k c.args.name c.args.link.now c.is_none.result c.is_none-then-is_none.result c.requires.queues lt
    (sym c.place.ensures.value) c.requires.own c.requires.named c.is_none.ensures c.if-is_none.true c.is_none-then-is_none.ensures c.if-is_none-2.true
    (c.set_link.ensures.links ∙ ap (pool_set (links_of c.args.slots.now) c.args.k) c.none-then-is_none-2.ensures) (ap (set c.args.ends.now c.place.result) c.none.ensures)).sound

pub returns-then-is_none-2-clause-lists : goal.returns-then-is_none-2-clause-lists
returns-then-is_none-2-clause-lists c =
    let lt : c.place.result < length c.args.ends.now = omega (arith, c.place.ensures.in_range, c.requires.places) in
    rw (← c.place.ensures.value) ((alone_went (links_of c.args.slots.now) _ c.args.ends.now _ c.place.result c.args.k c.args.name c.args.link.now c.is_none.result c.is_none-then-is_none.result c.requires.queues lt
    (sym c.place.ensures.value) c.requires.own c.requires.named c.is_none.ensures c.if-is_none.true c.is_none-then-is_none.ensures c.if-is_none-2.true
    (c.set_link.ensures.links ∙ ap (pool_set (links_of c.args.slots.now) c.args.k) c.none-then-is_none-2.ensures) (ap (set c.args.ends.now c.place.result) c.none.ensures)).lists)
