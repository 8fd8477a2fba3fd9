use Rattle.std.proofs.Common.{◌∙◌, ap, arith}
use Rattle.ptk_words.specs.Pools.{is_in}
use Rattle.ptk_clock.specs.Pairs.{slots_of}
use Rattle.ptk_clock.proofs.SlotMoves.{set_no_slot, out_without, some_own, some_elsewhere, none_own, none_elsewhere}
use Rattle.ptk_clock.proofs.threads.set_in.Goals as goal

pub returns-then-number-slots-clause-own : goal.returns-then-number-slots-clause-own
returns-then-number-slots-clause-own c = set_no_slot c.args.slots.first c.args.slots.count c.args.t c.args.deadline c.args.queue.now.pairs (omega arith)

pub add-requires-clause-fresh : goal.add-requires-clause-fresh
add-requires-clause-fresh c = ap (λ xs. is_in c.new-slot.result (slots_of xs)) c.remove.ensures.pairs ∙ out_without c.new-slot.result c.args.queue.now.pairs

pub returns-in-Some-clause-own : goal.returns-in-Some-clause-own
returns-in-Some-clause-own c =
    some_own c.args.slots.first c.args.slots.count c.args.t c.in-Some.deadline c.new-slot.result c.args.queue.now.pairs c.remove.new.self.pairs c.add.new.self.pairs c.args.deadline
    (omega arith) (omega arith) (omega arith) c.remove.ensures.pairs c.add.ensures.pairs c.in-Some.is

pub returns-in-Some-clause-elsewhere : goal.returns-in-Some-clause-elsewhere
returns-in-Some-clause-elsewhere c =
    some_elsewhere c.args.slots.first c.args.slots.count c.args.t c.in-Some.deadline c.new-slot.result c.args.queue.now.pairs c.remove.new.self.pairs c.add.new.self.pairs
    (omega arith) (omega arith) (omega arith) c.remove.ensures.pairs c.add.ensures.pairs

pub returns-in_default-clause-own : goal.returns-in_default-clause-own
returns-in_default-clause-own c =
    none_own c.args.slots.first c.args.slots.count c.args.t c.new-slot.result c.args.queue.now.pairs c.remove.new.self.pairs c.args.deadline
    (omega arith) (omega arith) (omega arith) c.remove.ensures.pairs c.in_default.is

pub returns-in_default-clause-elsewhere : goal.returns-in_default-clause-elsewhere
returns-in_default-clause-elsewhere c =
    none_elsewhere c.args.slots.first c.args.slots.count c.args.t c.new-slot.result c.args.queue.now.pairs c.remove.new.self.pairs
    (omega arith) (omega arith) (omega arith) c.remove.ensures.pairs
