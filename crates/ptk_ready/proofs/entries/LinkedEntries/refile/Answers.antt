use Rattle.std.proofs.Common.{◌≡◌, ℕ, suc, ◌-◌, ◌<◌, ◌≤◌, true, length, sym, ◌∙◌, ap, subst, rules, arith, w64, to_z, of_z, FitsSigned}
use Rattle.std.specs.Prelude.{Some, is_some, option_map, ◌||◌}
use Rattle.std.proofs.lemmas.Int.{to_z-of_z}
use Rattle.ptk_threads.specs.declared.link.Link.{Link}
use Rattle.ptk_threads.specs.Links.{links_of, place_of}
use Rattle.ptk_threads.proofs.LinkSlots.{links_count}
use Rattle.ptk_ready.specs.Bits.{has_bit, IsBitChanged}
use Rattle.ptk_ready.specs.Entries.{is_ready_place}
use Rattle.ptk_ready.proofs.Filed.{first_later}
use Rattle.ptk_ready.proofs.Calls.{member_ready, refiled_lists}
use Rattle.ptk_ready.proofs.entries.LinkedEntries.refile.Goals as goal

pub bitmap_without-left-requires : goal.bitmap_without-left-requires
bitmap_without-left-requires g c =
    let links = links_of c.args.slots.now in
    let few : length links ≤ 32 = omega (arith, links_count c.args.slots.now, c.requires.places.0) in
    ap (λ (l : Link). is_ready_place (option_map place_of l.queue)) c.link_of.ensures ∙ member_ready links c.args.ends.now c.args.self.now.stamps c.args.k c.requires.queues few c.requires.ready

pub returns : goal.returns
returns g c =
    let links = links_of c.args.slots.now in
    let long : length c.args.slots.now ≡ length links = sym (links_count c.args.slots.now) in
    let few : length links ≤ 32 = omega (arith, long, c.requires.places.0) in
    let bitmap = c.args.self.now.bitmap in
    let bits = c.bitmap_without-left.result in
    let i = c.level.result - 1 in
    let priority : c.args.priority ≡ suc (c.level.result - 1) = omega (arith, c.level.ensures.value, c.level.ensures.positive) in
    let low : c.level.result - 1 < 32 = omega (arith, c.level.ensures.in_range, c.level.ensures.positive) in
    let lt : c.level.result - 1 < length c.args.ends.now = omega (arith, low, c.requires.places.1) in
    let fits : FitsSigned w64 c.stamp_in.result = search rules in
    let cleared = subst (λ (l : Link). (i : ℕ) → option_map place_of l.queue ≡ Some i → has_bit bitmap i ≡ true → IsBitChanged bitmap bits i (is_some l.previous || is_some l.next)) c.link_of.ensures c.bitmap_without-left.ensures in
    let found = first_later links c.args.ends.now c.args.self.now.stamps c.args.k i (length c.args.slots.now) (to_z w64 (of_z w64 c.stamp_in.result)) c.index-ends-i.result c.first_after.result
    long lt c.index-ends-i.is (to_z-of_z w64 c.stamp_in.result fits ∙ c.stamp_in.ensures) c.first_after.ensures in
    let done = refiled_lists g.row.LIMIT c.args.self.now.range links c.args.ends.now c.args.stored.now c.args.self.now.stamps bitmap bits c.with_bit-self.result c.args.k i c.args.priority c.first_after.result c.requires.queues few c.requires.sound c.requires.places.1 c.requires.ready
    cleared priority low c.with_bit-self.ensures found in
    record { sound = done.sound; line = done.line; waiters = done.waiters }
