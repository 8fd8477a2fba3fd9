use Rattle.std.proofs.Common.{◌≡◌, length, ◌∙◌, rules}
use Rattle.ptk_threads.specs.Queues.{with_before}
use Rattle.ptk_threads.proofs.Linked.{free_at, relinked_at, view_at, inserted_lists}
use Rattle.ptk_threads.proofs.slot_table.SlotTable.insert.Goals as goal

pub insert-requires-clause-free : goal.insert-requires-clause-free
insert-requires-clause-free c =
    free_at c.self.inside.slots c.self.inside.ends c.args.p c.args.k c.args.self.now c.lend.result.now c.lend-2.result.now c.self.invariant c.self.view_is c.lend.ensures.value c.lend-2.ensures.value c.requires.free

pub invariant_of-self : goal.invariant_of-self
invariant_of-self c =
    let done =
    let long : length c.insert.new.ends ≡ length c.lend-2.result.now = search rules in
    relinked_at c.self.inside.slots c.self.inside.ends c.args.p c.args.self.now c.lend.result.now c.insert.new.slots c.lend-2.result.now c.insert.new.ends (with_before c.args.k c.args.before)
    c.self.invariant c.self.view_is c.requires.partition c.lend.ensures.value c.lend-2.ensures.value c.insert.ensures.queues c.insert.ensures.threads c.insert.ensures.shared long (c.insert.ensures.lists ∙ inserted_lists c.self.inside.slots c.self.inside.ends c.args.p c.args.k c.args.before c.lend.result.now c.lend-2.result.now c.self.invariant c.lend.ensures.value c.lend-2.ensures.value) in
    done.linked

pub returns : goal.returns
returns c =
    let done =
    let long : length c.insert.new.ends ≡ length c.lend-2.result.now = search rules in
    relinked_at c.self.inside.slots c.self.inside.ends c.args.p c.args.self.now c.lend.result.now c.insert.new.slots c.lend-2.result.now c.insert.new.ends (with_before c.args.k c.args.before)
    c.self.invariant c.self.view_is c.requires.partition c.lend.ensures.value c.lend-2.ensures.value c.insert.ensures.queues c.insert.ensures.threads c.insert.ensures.shared long (c.insert.ensures.lists ∙ inserted_lists c.self.inside.slots c.self.inside.ends c.args.p c.args.k c.args.before c.lend.result.now c.lend-2.result.now c.self.invariant c.lend.ensures.value c.lend-2.ensures.value) in
    view_at c.self.inside.slots c.self.inside.ends c.args.p c.args.self.now c.insert.new.slots c.insert.new.ends _ c.self.view_is done
