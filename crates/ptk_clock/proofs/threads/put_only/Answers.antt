use Rattle.std.proofs.Common.{◌≡◌, arith, None}
use Rattle.std.proofs.lemmas.Option.{slice_get_within}
use Rattle.ptk_clock.specs.BySlot.{deadlines_from}
use Rattle.ptk_clock.specs.ByThread.{least_deadline}
use Rattle.ptk_clock.proofs.SlotMoves.{set_no_slot}
use Rattle.ptk_clock.proofs.ByThread.{IsLaid, laid_at, put_least}
use Rattle.ptk_clock.proofs.Onlys.{none_kept, only_fresh, only_own, only_elsewhere, only_kept, same_least}
use Rattle.ptk_clock.proofs.threads.put_only.Goals as goal

pub returns-then-number-slots-clause-own : goal.returns-then-number-slots-clause-own
returns-then-number-slots-clause-own c = set_no_slot c.args.slots.first c.args.slots.count c.args.t _ c.args.queue.now.pairs (omega arith)

pub returns-then-number-slots-clause-least : goal.returns-then-number-slots-clause-least
returns-then-number-slots-clause-least c = same_least c.args.p c.args.partitions.now c.args.queue.now.pairs c.requires.kept.least

pub overflow_add-slots : goal.overflow_add-slots
overflow_add-slots c =
    let is : IsLaid 0 c.args.queue.now.slots c.args.slots = laid_at 0 c.args.queue.now.slots c.args.p c.args.partitions.now c.args.slots c.requires.kept.laid c.requires.read in
    omega (arith, is.high, c.requires.kept.few, c.from.ensures, c.number-2.ensures.value, c.number-2.ensures.positive, c.number.ensures.value, c.if-number-slots.false)

pub add-requires-clause-made_for : goal.add-requires-clause-made_for
add-requires-clause-made_for c =
    let is : IsLaid 0 c.args.queue.now.slots c.args.slots = laid_at 0 c.args.queue.now.slots c.args.p c.args.partitions.now c.args.slots c.requires.kept.laid c.requires.read in
    omega (arith, is.high, c.new-slot.ensures, c.from.ensures, c.number-2.ensures.value, c.number-2.ensures.positive, c.number.ensures.value, c.if-number-slots.false)

pub add-requires-clause-fresh : goal.add-requires-clause-fresh
add-requires-clause-fresh c =
    only_fresh c.args.slots.first c.args.slots.count c.args.t c.new-slot.result c.args.queue.now.pairs
    (none_kept c.args.queue.now.slots c.args.p c.args.partitions.now c.args.slots c.args.queue.now.pairs c.requires.kept c.requires.read c.requires.none)
    (omega arith) (omega arith) (omega arith)

pub bounds-partitions-index : goal.bounds-partitions-index
bounds-partitions-index c = omega (arith, c.index.ensures, slice_get_within c.args.partitions.now c.args.p c.args.slots c.requires.read)

pub returns-clause-own : goal.returns-clause-own
returns-clause-own c =
    only_own c.args.slots.first c.args.slots.count c.args.t c.args.deadline c.new-slot.result c.args.queue.now.pairs c.add.new.self.pairs
    (none_kept c.args.queue.now.slots c.args.p c.args.partitions.now c.args.slots c.args.queue.now.pairs c.requires.kept c.requires.read c.requires.none)
    (omega arith) (omega arith) (omega arith) c.add.ensures.pairs

pub returns-clause-elsewhere : goal.returns-clause-elsewhere
returns-clause-elsewhere c =
    only_elsewhere c.args.slots.first c.args.slots.count c.args.t c.args.deadline c.new-slot.result c.args.queue.now.pairs c.add.new.self.pairs
    (none_kept c.args.queue.now.slots c.args.p c.args.partitions.now c.args.slots c.args.queue.now.pairs c.requires.kept c.requires.read c.requires.none)
    (omega arith) (omega arith) (omega arith) c.add.ensures.pairs

pub returns-clause-least : goal.returns-clause-least
returns-clause-least c =
    let none : least_deadline (deadlines_from c.args.slots.first c.args.slots.count c.args.queue.now.pairs) ≡ None =
    none_kept c.args.queue.now.slots c.args.p c.args.partitions.now c.args.slots c.args.queue.now.pairs c.requires.kept c.requires.read c.requires.none in
    put_least c.args.p c.index.result c.args.partitions.now c.args.slots c.index-partitions-index.result c.add.new.self.pairs _ c.index.ensures c.requires.read
    (only_kept c.args.slots.first c.args.slots.count c.args.t c.args.deadline c.args.queue.now.pairs c.add.new.self.pairs none (omega arith) (omega arith)
    (only_own c.args.slots.first c.args.slots.count c.args.t c.args.deadline c.new-slot.result c.args.queue.now.pairs c.add.new.self.pairs none (omega arith) (omega arith) (omega arith) c.add.ensures.pairs))
