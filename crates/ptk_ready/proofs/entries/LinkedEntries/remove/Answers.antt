use Rattle.std.proofs.Common.{◌≡◌, ℕ, ◌≤◌, true, length, ◌∙◌, ap, subst, arith}
use Rattle.std.specs.Prelude.{Some, is_some, option_map, ◌||◌}
use Rattle.ptk_threads.specs.declared.link.Link.{Link}
use Rattle.ptk_threads.specs.Links.{links_of, place_of}
use Rattle.ptk_threads.proofs.LinkSlots.{links_count}
use Rattle.ptk_ready.specs.Bits.{has_bit, IsBitChanged}
use Rattle.ptk_ready.specs.Entries.{is_ready_place}
use Rattle.ptk_ready.proofs.Calls.{member_ready, removed_lists}
use Rattle.ptk_ready.proofs.entries.LinkedEntries.remove.Goals as goal

pub bitmap_without-self-requires : goal.bitmap_without-self-requires
bitmap_without-self-requires g c =
    let links = links_of c.args.slots.now in
    let few : length links ≤ 32 = omega (arith, links_count c.args.slots.now, c.requires.places.0) in
    ap (λ (l : Link). is_ready_place (option_map place_of l.queue)) c.link_of.ensures ∙ member_ready links c.args.ends.now c.args.self.now.stamps c.args.k c.requires.queues few c.requires.ready

pub returns : goal.returns
returns g c =
    let links = links_of c.args.slots.now in
    let few : length links ≤ 32 = omega (arith, links_count c.args.slots.now, c.requires.places.0) in
    let bitmap = c.args.self.now.bitmap in
    let bits = c.bitmap_without-self.result in
    let cleared = subst (λ (l : Link). (i : ℕ) → option_map place_of l.queue ≡ Some i → has_bit bitmap i ≡ true → IsBitChanged bitmap bits i (is_some l.previous || is_some l.next)) c.link_of.ensures c.bitmap_without-self.ensures in
    let done = removed_lists g.row.LIMIT c.args.self.now.range links c.args.ends.now c.args.stored.now c.args.self.now.stamps bitmap bits c.args.k c.requires.queues few c.requires.sound c.requires.places.1 c.requires.ready cleared in
    record { sound = done.sound; line = done.line; waiters = done.waiters }
