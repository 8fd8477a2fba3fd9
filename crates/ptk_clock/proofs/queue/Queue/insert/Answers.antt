use Rattle.std.proofs.Common.{◌≡◌, ◌<◌, ◌∙◌, false, length, ap, arith}
use Rattle.std.specs.Prelude.{IsOk}
use Rattle.std.specs.List.{insert}
use Rattle.ptk_words.specs.Pools.{is_in}
use Rattle.ptk_clock.specs.Pairs.{DeadlineTable, slots_of, with_pair}
use Rattle.ptk_clock.proofs.Rooms.{deadlines_with, deadlines_room, when_ok, put_at_end}
use Rattle.ptk_clock.proofs.queue.Queue.insert.Goals as goal

-- the pair at the end
last-fresh : (c : goal.After-push_reserved-arg-1) → is_in c.args.slot (slots_of c.self.inside.pairs.items) ≡ false
last-fresh c = rw (ap (λ (t : DeadlineTable). t.pairs) c.self.view_is) c.requires.fresh

last-within : (c : goal.After-push_reserved-arg-1) → c.args.slot < c.self.inside.slots
last-within c = omega (arith, ap (λ (t : DeadlineTable). t.slots) c.self.view_is, c.requires.made_for)

pub push_reserved-requires : goal.push_reserved-requires
push_reserved-requires c =
    let room : length c.self.inside.pairs.items < c.self.inside.slots = deadlines_room _ _ _ (last-within c) (last-fresh c) c.self.invariant.0 in
    omega (arith, room, c.self.invariant.1)

pub invariant_of-self : goal.invariant_of-self
invariant_of-self c =
    let pairs : c.self.inside.pairs.items ≡ c.args.self.now.pairs = ap (λ (t : DeadlineTable). t.pairs) c.self.view_is in
    let slots : c.self.inside.slots ≡ c.args.self.now.slots = ap (λ (t : DeadlineTable). t.slots) c.self.view_is in
    let placed : insert c.self.inside.pairs.items c.args.place (c.args.deadline, c.args.slot) ≡ with_pair (c.args.deadline, c.args.slot) c.self.inside.pairs.items = rw pairs c.requires.place in
    let made : c.push_reserved.new.self.items ≡ with_pair (c.args.deadline, c.args.slot) c.self.inside.pairs.items =
    put_at_end (c.args.deadline, c.args.slot) c.args.place c.self.inside.pairs.items c.push_reserved.new.self.items (omega (arith, c.if-place-len.true, c.len.ensures)) placed c.push_reserved.ensures.items in (
      rw made (deadlines_with _ _ _ (omega (arith, slots, c.requires.made_for)) (rw pairs c.requires.fresh) c.self.invariant.0),
      omega (arith, c.self.invariant.1, c.push_reserved.ensures.capacity),
    )

-- a pair before others
same-pairs : (c : goal.After-insert) → c.self.inside.pairs.items ≡ c.args.self.now.pairs
same-pairs c = ap (λ (t : DeadlineTable). t.pairs) c.self.view_is

fresh-pairs : (c : goal.After-insert) → is_in c.args.slot (slots_of c.self.inside.pairs.items) ≡ false
fresh-pairs c = rw (same-pairs c) c.requires.fresh

within-slots : (c : goal.After-insert) → c.args.slot < c.self.inside.slots
within-slots c = omega (arith, ap (λ (t : DeadlineTable). t.slots) c.self.view_is, c.requires.made_for)

-- there was room
items-inside : (c : goal.After-insert) → c.insert.new.self.items ≡ with_pair (c.args.deadline, c.args.slot) c.self.inside.pairs.items
items-inside c =
    let room : length c.self.inside.pairs.items < c.self.inside.slots = deadlines_room _ _ _ (within-slots c) (fresh-pairs c) c.self.invariant.0 in
    let ok : IsOk c.insert.result = c.insert.ensures.succeeds (omega (arith, room, c.self.invariant.1)) in
    let placed : insert c.self.inside.pairs.items c.args.place (c.args.deadline, c.args.slot) ≡ with_pair (c.args.deadline, c.args.slot) c.self.inside.pairs.items = rw (same-pairs c) c.requires.place in
    c.insert.ensures.items ∙ (when_ok c.insert.result _ _ ok ∙ placed)

pub returns-else-place-len-clause-pairs : goal.returns-else-place-len-clause-pairs
returns-else-place-len-clause-pairs c = items-inside c ∙ ap (with_pair (c.args.deadline, c.args.slot)) (same-pairs c)

pub invariant_of-self-else-place-len : goal.invariant_of-self-else-place-len
invariant_of-self-else-place-len c = (
  rw (items-inside c) (deadlines_with _ _ _ (within-slots c) (fresh-pairs c) c.self.invariant.0),
  omega (arith, c.self.invariant.1, c.insert.ensures.capacity),
)
