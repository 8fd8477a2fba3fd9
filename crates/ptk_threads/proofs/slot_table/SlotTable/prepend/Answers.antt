use Rattle.std.proofs.Common.{◌≡◌, length, rules}
use Rattle.ptk_threads.specs.Queues.{with_first}
use Rattle.ptk_threads.proofs.Linked.{free_at, relinked_at, view_at}
use Rattle.ptk_threads.proofs.slot_table.SlotTable.prepend.Goals as goal

pub prepend-requires-clause-free : goal.prepend-requires-clause-free
prepend-requires-clause-free c =
    free_at c.self.inside.slots c.self.inside.ends c.args.p c.args.k c.args.self.now c.lend.result.now c.lend-2.result.now c.self.invariant c.self.view_is c.lend.ensures.value c.lend-2.ensures.value c.requires.free

pub invariant_of-self : goal.invariant_of-self
invariant_of-self c =
    let done =
    let long : length c.prepend.new.ends ≡ length c.lend-2.result.now = search rules in
    relinked_at c.self.inside.slots c.self.inside.ends c.args.p c.args.self.now c.lend.result.now c.prepend.new.slots c.lend-2.result.now c.prepend.new.ends (with_first c.args.name c.args.k)
    c.self.invariant c.self.view_is c.requires.partition c.lend.ensures.value c.lend-2.ensures.value c.prepend.ensures.queues c.prepend.ensures.threads c.prepend.ensures.shared long (c.prepend.ensures.lists) in
    done.linked

pub returns : goal.returns
returns c =
    let done =
    let long : length c.prepend.new.ends ≡ length c.lend-2.result.now = search rules in
    relinked_at c.self.inside.slots c.self.inside.ends c.args.p c.args.self.now c.lend.result.now c.prepend.new.slots c.lend-2.result.now c.prepend.new.ends (with_first c.args.name c.args.k)
    c.self.invariant c.self.view_is c.requires.partition c.lend.ensures.value c.lend-2.ensures.value c.prepend.ensures.queues c.prepend.ensures.threads c.prepend.ensures.shared long (c.prepend.ensures.lists) in
    view_at c.self.inside.slots c.self.inside.ends c.args.p c.args.self.now c.prepend.new.slots c.prepend.new.ends _ c.self.view_is done
