use Rattle.std.proofs.Common.{◌≡◌, length, ◌∙◌, ap, rules}
use Rattle.ptk_words.specs.Parts.{part_of}
use Rattle.ptk_threads.specs.Links.{place_of}
use Rattle.ptk_threads.specs.LinkChanges.{first_in}
use Rattle.ptk_threads.specs.Queues.{without_first}
use Rattle.ptk_threads.proofs.Linked.{lists_at, relinked_at, view_at}
use Rattle.ptk_threads.proofs.slot_table.SlotTable.take_first.Goals as goal

pub invariant_of-self : goal.invariant_of-self
invariant_of-self c =
    let done =
    let long : length c.take_first.new.ends ≡ length c.lend-2.result.now = search rules in
    relinked_at c.self.inside.slots c.self.inside.ends c.args.p c.args.self.now c.lend.result.now c.take_first.new.slots c.lend-2.result.now c.take_first.new.ends (without_first c.args.name)
    c.self.invariant c.self.view_is c.requires c.lend.ensures.value c.lend-2.ensures.value c.take_first.ensures.queues c.take_first.ensures.threads c.take_first.ensures.shared long c.take_first.ensures.lists in
    done.linked

pub returns-clause-first : goal.returns-clause-first
returns-clause-first c =
    c.take_first.ensures.first ∙ ap (λ lists. first_in (part_of lists (place_of c.args.name))) (lists_at c.self.inside.slots c.self.inside.ends c.args.p c.args.self.now c.lend.result.now c.lend-2.result.now c.self.invariant c.self.view_is c.lend.ensures.value c.lend-2.ensures.value)

pub returns-clause-queues : goal.returns-clause-queues
returns-clause-queues c =
    let done =
    let long : length c.take_first.new.ends ≡ length c.lend-2.result.now = search rules in
    relinked_at c.self.inside.slots c.self.inside.ends c.args.p c.args.self.now c.lend.result.now c.take_first.new.slots c.lend-2.result.now c.take_first.new.ends (without_first c.args.name)
    c.self.invariant c.self.view_is c.requires c.lend.ensures.value c.lend-2.ensures.value c.take_first.ensures.queues c.take_first.ensures.threads c.take_first.ensures.shared long c.take_first.ensures.lists in
    view_at c.self.inside.slots c.self.inside.ends c.args.p c.args.self.now c.take_first.new.slots c.take_first.new.ends _ c.self.view_is done
