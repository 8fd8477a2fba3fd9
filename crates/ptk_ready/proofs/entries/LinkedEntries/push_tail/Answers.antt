use Rattle.std.proofs.Common.{◌≡◌, ℕ, suc, ◌-◌, ◌<◌, ◌≤◌, true, length, refl, ◌∙◌, ap, subst, set, rules, arith, ◌<ℤ◌, w64, to_z, of_z, FitsSigned, lit<}
use Rattle.std.proofs.lemmas.Int.{to_z-of_z}
use Rattle.ptk_threads.specs.Table.{stored_of}
use Rattle.ptk_threads.specs.declared.link.QueueName.TheVariants.{Ready}
use Rattle.ptk_threads.specs.Links.{links_of}
use Rattle.ptk_threads.proofs.LinkSlots.{links_count}
use Rattle.ptk_ready.specs.Bits.{IsBitChanged}
use Rattle.ptk_ready.specs.Entries.{is_ready, stamp_of}
use Rattle.ptk_ready.proofs.Lists.{sound_line}
use Rattle.ptk_ready.proofs.Calls.{pushed_last}
use Rattle.ptk_ready.proofs.entries.LinkedEntries.push_tail.Goals as goal

pub tail_stamp-stamp-requires : goal.tail_stamp-stamp-requires
tail_stamp-stamp-requires g c =
    let few : length (links_of c.args.slots.now) ≤ 32 = omega (arith, links_count c.args.slots.now, c.requires.places.0) in
    let sound = sound_line g.row.LIMIT c.args.self.now.range (links_of c.args.slots.now) c.args.ends.now c.args.stored.now c.args.self.now.stamps c.args.self.now.bitmap c.requires.queues few c.requires.sound in
    (lit< tt, (sound.stamped, (c.requires.limit, c.requires.places.0)))

pub returns : goal.returns
returns g c =
    let links = links_of c.args.slots.now in
    let few : length links ≤ 32 = omega (arith, links_count c.args.slots.now, c.requires.places.0) in
    let mid = c.tail_stamp-stamp.new.self.stamps in
    let stamp = to_z w64 (of_z w64 c.tail_stamp-stamp.result) in
    let fits : FitsSigned w64 c.tail_stamp-stamp.result = search rules in
    let same : to_z w64 (of_z w64 c.tail_stamp-stamp.result) ≡ c.tail_stamp-stamp.result = to_z-of_z w64 c.tail_stamp-stamp.result fits in
    let long : length c.tail_stamp-stamp.new.self.stamps ≡ 32 = search rules in
    let within : c.args.k ≤ length links = omega (arith, links_count c.args.slots.now, c.requires.slot) in
    let level : stored_of c.args.stored.now c.args.k ≡ suc (c.new-priority.result - 1) = omega (arith, c.stored_in.ensures, c.new-priority.ensures, c.requires.priority.0) in
    let low : c.new-priority.result - 1 < 32 = omega (arith, c.stored_in.ensures, c.new-priority.ensures, c.requires.priority.0, c.requires.priority.1) in
    let bit = subst (λ b. IsBitChanged b c.with_bit-self.result (c.new-priority.result - 1) true) c.tail_stamp-stamp.ensures.bitmap
    (subst (λ n. IsBitChanged c.tail_stamp-stamp.new.self.bitmap c.with_bit-self.result (n - 1) true) c.level.ensures.value c.with_bit-self.ensures) in
    let last : (j : ℕ) → is_ready links j ≡ true → stamp_of mid j <ℤ stamp = λ j ready. rw same (c.tail_stamp-stamp.ensures.last j ready) in
    let done = pushed_last g.row.LIMIT c.args.self.now.range c.tail_stamp-stamp.new.self.range links c.args.ends.now c.args.stored.now c.args.self.now.stamps mid (set mid c.place.result stamp) c.args.self.now.bitmap c.with_bit-self.result
    c.args.k (c.new-priority.result - 1) stamp (Ready c.new-priority.result) c.requires.queues few c.requires.sound c.tail_stamp-stamp.ensures.stamps c.tail_stamp-stamp.ensures.line
    c.requires.apart c.place.ensures.positive within long (ap (λ n. set mid n stamp) c.place.ensures.value) level low refl
    last (rw same c.tail_stamp-stamp.ensures.within) c.requires.places.1 bit in
    record { queue = ap Ready (c.new-priority.ensures ∙ c.stored_in.ensures); sound = done.sound; line = done.line; waiters = done.waiters }
