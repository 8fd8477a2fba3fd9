use Rattle.std.proofs.Common.{◌≡◌, length, rules}
use Rattle.ptk_threads.specs.Queues.{with_out}
use Rattle.ptk_threads.proofs.Linked.{relinked_at, view_at, taken_apart}
use Rattle.ptk_threads.proofs.slot_table.SlotTable.take_from.Goals as goal

pub invariant_of-self : goal.invariant_of-self
invariant_of-self c =
    let done =
    let long : length c.take_from.new.ends ≡ length c.lend-2.result.now = search rules in
    relinked_at c.self.inside.slots c.self.inside.ends c.args.p c.args.self.now c.lend.result.now c.take_from.new.slots c.lend-2.result.now c.take_from.new.ends (with_out c.args.name c.args.k)
    c.self.invariant c.self.view_is c.requires.partition c.lend.ensures.value c.lend-2.ensures.value c.take_from.ensures.queues c.take_from.ensures.threads c.take_from.ensures.shared long c.take_from.ensures.lists in
    done.linked

pub returns-clause-table : goal.returns-clause-table
returns-clause-table c =
    let done =
    let long : length c.take_from.new.ends ≡ length c.lend-2.result.now = search rules in
    relinked_at c.self.inside.slots c.self.inside.ends c.args.p c.args.self.now c.lend.result.now c.take_from.new.slots c.lend-2.result.now c.take_from.new.ends (with_out c.args.name c.args.k)
    c.self.invariant c.self.view_is c.requires.partition c.lend.ensures.value c.lend-2.ensures.value c.take_from.ensures.queues c.take_from.ensures.threads c.take_from.ensures.shared long c.take_from.ensures.lists in
    view_at c.self.inside.slots c.self.inside.ends c.args.p c.args.self.now c.take_from.new.slots c.take_from.new.ends _ c.self.view_is done

pub returns-clause-apart : goal.returns-clause-apart
returns-clause-apart c = λ inside.
    (let done =
    let long : length c.take_from.new.ends ≡ length c.lend-2.result.now = search rules in
    relinked_at c.self.inside.slots c.self.inside.ends c.args.p c.args.self.now c.lend.result.now c.take_from.new.slots c.lend-2.result.now c.take_from.new.ends (with_out c.args.name c.args.k)
    c.self.invariant c.self.view_is c.requires.partition c.lend.ensures.value c.lend-2.ensures.value c.take_from.ensures.queues c.take_from.ensures.threads c.take_from.ensures.shared long c.take_from.ensures.lists in
    let table = view_at c.self.inside.slots c.self.inside.ends c.args.p c.args.self.now c.take_from.new.slots c.take_from.new.ends _ c.self.view_is done in
    taken_apart c.self.inside.slots c.self.inside.ends c.args.p c.args.k c.args.self.now _ c.lend.result.now c.lend-2.result.now c.args.name c.self.invariant c.self.view_is c.lend.ensures.value c.lend-2.ensures.value table inside)
