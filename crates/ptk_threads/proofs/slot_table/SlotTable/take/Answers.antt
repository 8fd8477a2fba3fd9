use Rattle.std.proofs.Common.{◌≡◌, length, ◌∙◌, rules}
use Rattle.ptk_threads.specs.Queues.{with_none}
use Rattle.ptk_threads.proofs.Linked.{relinked_at, view_at, taken_lists}
use Rattle.ptk_threads.proofs.slot_table.SlotTable.take.Goals as goal

pub invariant_of-self : goal.invariant_of-self
invariant_of-self c =
    let done =
    let long : length c.take.new.ends ≡ length c.lend-2.result.now = search rules in
    relinked_at c.self.inside.slots c.self.inside.ends c.args.p c.args.self.now c.lend.result.now c.take.new.slots c.lend-2.result.now c.take.new.ends (with_none c.args.k)
    c.self.invariant c.self.view_is c.requires c.lend.ensures.value c.lend-2.ensures.value c.take.ensures.queues c.take.ensures.threads c.take.ensures.shared long (c.take.ensures.lists ∙ taken_lists c.self.inside.slots c.self.inside.ends c.args.p c.args.k c.lend.result.now c.lend-2.result.now c.self.invariant c.lend.ensures.value c.lend-2.ensures.value) in
    done.linked

pub returns : goal.returns
returns c =
    let done =
    let long : length c.take.new.ends ≡ length c.lend-2.result.now = search rules in
    relinked_at c.self.inside.slots c.self.inside.ends c.args.p c.args.self.now c.lend.result.now c.take.new.slots c.lend-2.result.now c.take.new.ends (with_none c.args.k)
    c.self.invariant c.self.view_is c.requires c.lend.ensures.value c.lend-2.ensures.value c.take.ensures.queues c.take.ensures.threads c.take.ensures.shared long (c.take.ensures.lists ∙ taken_lists c.self.inside.slots c.self.inside.ends c.args.p c.args.k c.lend.result.now c.lend-2.result.now c.self.invariant c.lend.ensures.value c.lend-2.ensures.value) in
    view_at c.self.inside.slots c.self.inside.ends c.args.p c.args.self.now c.take.new.slots c.take.new.ends _ c.self.view_is done
