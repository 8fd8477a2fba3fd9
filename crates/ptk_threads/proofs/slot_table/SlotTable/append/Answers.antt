use Rattle.std.proofs.Common.{◌≡◌, length, rules}
use Rattle.ptk_threads.specs.Queues.{with_last}
use Rattle.ptk_threads.proofs.Linked.{free_at, relinked_at, view_at}
use Rattle.ptk_threads.proofs.slot_table.SlotTable.append.Goals as goal

pub append-requires-clause-free : goal.append-requires-clause-free
append-requires-clause-free c =
    free_at c.self.inside.slots c.self.inside.ends c.args.p c.args.k c.args.self.now c.lend.result.now c.lend-2.result.now c.self.invariant c.self.view_is c.lend.ensures.value c.lend-2.ensures.value c.requires.free

pub invariant_of-self : goal.invariant_of-self
invariant_of-self c =
    let done =
    let long : length c.append.new.ends ≡ length c.lend-2.result.now = search rules in
    relinked_at c.self.inside.slots c.self.inside.ends c.args.p c.args.self.now c.lend.result.now c.append.new.slots c.lend-2.result.now c.append.new.ends (with_last c.args.name c.args.k)
    c.self.invariant c.self.view_is c.requires.partition c.lend.ensures.value c.lend-2.ensures.value c.append.ensures.queues c.append.ensures.threads c.append.ensures.shared long (c.append.ensures.lists) in
    done.linked

pub returns : goal.returns
returns c =
    let done =
    let long : length c.append.new.ends ≡ length c.lend-2.result.now = search rules in
    relinked_at c.self.inside.slots c.self.inside.ends c.args.p c.args.self.now c.lend.result.now c.append.new.slots c.lend-2.result.now c.append.new.ends (with_last c.args.name c.args.k)
    c.self.invariant c.self.view_is c.requires.partition c.lend.ensures.value c.lend-2.ensures.value c.append.ensures.queues c.append.ensures.threads c.append.ensures.shared long (c.append.ensures.lists) in
    view_at c.self.inside.slots c.self.inside.ends c.args.p c.args.self.now c.append.new.slots c.append.new.ends _ c.self.view_is done
