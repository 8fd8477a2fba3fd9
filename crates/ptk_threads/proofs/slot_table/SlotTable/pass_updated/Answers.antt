use Rattle.std.proofs.Common.{◌≡◌, ℕ, List, length, false, sym, subst, rules, arith}
use Rattle.std.specs.Prelude.{Option, IsSome}
use Rattle.ptk_words.specs.Pools.{pool_changed, pool_get, is_in}
use Rattle.ptk_words.specs.declared.threads.Thread.{Thread}
use Rattle.ptk_words.specs.Parts.{part_of}
use Rattle.ptk_threads.specs.Queues.{with_last, with_out}
use Rattle.ptk_threads.proofs.Linked.{lists_at, used_here, relinked_at, moved_at}
use Rattle.ptk_threads.proofs.Slots.{used_below}
use Rattle.ptk_threads.proofs.slot_table.SlotTable.pass_updated.Goals as goal

pub pass_on-requires-clause-slot : goal.pass_on-requires-clause-slot
pass_on-requires-clause-slot g c =
    let below = used_below c.lend-slots.result.now c.args.k (used_here c.self.inside.slots c.self.inside.ends c.args.p c.args.k c.args.self.now c.lend-slots.result.now c.self.view_is c.lend-slots.ensures.value c.requires.in_use) in
    omega (arith, below)

pub pass_on-requires-clause-free : goal.pass_on-requires-clause-free
pass_on-requires-clause-free g c = λ i. subst (λ (lists : List (List ℕ)). is_in c.args.k (part_of (with_out c.args.from c.args.k lists) i) ≡ false) (sym (lists_at c.self.inside.slots c.self.inside.ends c.args.p c.args.self.now c.lend-slots.result.now c.lend.result.now c.self.invariant c.self.view_is c.lend-slots.ensures.value c.lend.ensures.value)) (c.requires.free i)

pub update_in-requires-clause-in_use : goal.update_in-requires-clause-in_use
update_in-requires-clause-in_use g c =
    subst (λ (pool : List (Option Thread)). IsSome (pool_get pool c.args.k)) (sym c.pass_on.ensures.threads)
    (used_here c.self.inside.slots c.self.inside.ends c.args.p c.args.k c.args.self.now c.lend-slots.result.now c.self.view_is c.lend-slots.ensures.value c.requires.in_use)

pub invariant_of-self : goal.invariant_of-self
invariant_of-self g c =
    let done =
    let long : length c.pass_on.new.ends ≡ length c.lend.result.now = search rules in
    relinked_at c.self.inside.slots c.self.inside.ends c.args.p c.args.self.now c.lend-slots.result.now c.pass_on.new.slots c.lend.result.now c.pass_on.new.ends (λ lists. with_last c.args.to c.args.k (with_out c.args.from c.args.k lists))
    c.self.invariant c.self.view_is c.requires.partition c.lend-slots.ensures.value c.lend.ensures.value c.pass_on.ensures.queues c.pass_on.ensures.threads c.pass_on.ensures.shared long c.pass_on.ensures.lists in
    (moved_at c.self.inside.slots c.self.inside.ends c.args.p c.args.self.now c.lend-slots.result.now c.pass_on.new.slots c.update_in.new.slots c.pass_on.new.ends (pool_changed c.args.k (g.C.ThreadChange.changed c.args.change.now)) _
    c.self.view_is c.requires.partition c.lend-slots.ensures.value c.pass_on.ensures.threads done c.update_in.ensures.links c.update_in.ensures.threads).linked

pub returns : goal.returns
returns g c =
    let done =
    let long : length c.pass_on.new.ends ≡ length c.lend.result.now = search rules in
    relinked_at c.self.inside.slots c.self.inside.ends c.args.p c.args.self.now c.lend-slots.result.now c.pass_on.new.slots c.lend.result.now c.pass_on.new.ends (λ lists. with_last c.args.to c.args.k (with_out c.args.from c.args.k lists))
    c.self.invariant c.self.view_is c.requires.partition c.lend-slots.ensures.value c.lend.ensures.value c.pass_on.ensures.queues c.pass_on.ensures.threads c.pass_on.ensures.shared long c.pass_on.ensures.lists in
    (moved_at c.self.inside.slots c.self.inside.ends c.args.p c.args.self.now c.lend-slots.result.now c.pass_on.new.slots c.update_in.new.slots c.pass_on.new.ends (pool_changed c.args.k (g.C.ThreadChange.changed c.args.change.now)) _
    c.self.view_is c.requires.partition c.lend-slots.ensures.value c.pass_on.ensures.threads done c.update_in.ensures.links c.update_in.ensures.threads).view
