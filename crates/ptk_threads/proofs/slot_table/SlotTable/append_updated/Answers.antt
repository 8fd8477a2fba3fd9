use Rattle.std.proofs.Common.{◌≡◌, List, length, sym, subst, rules, arith}
use Rattle.std.specs.Prelude.{Option, IsSome}
use Rattle.ptk_words.specs.Pools.{pool_changed, pool_get}
use Rattle.ptk_words.specs.declared.threads.Thread.{Thread}
use Rattle.ptk_threads.specs.Queues.{with_last}
use Rattle.ptk_threads.proofs.Linked.{free_at, used_here, relinked_at, moved_at}
use Rattle.ptk_threads.proofs.Slots.{used_below}
use Rattle.ptk_threads.proofs.slot_table.SlotTable.append_updated.Goals as goal

pub append-requires-clause-slot : goal.append-requires-clause-slot
append-requires-clause-slot g c =
    let below = used_below c.lend-slots.result.now c.args.k (used_here c.self.inside.slots c.self.inside.ends c.args.p c.args.k c.args.self.now c.lend-slots.result.now c.self.view_is c.lend-slots.ensures.value c.requires.in_use) in
    omega (arith, below)

pub append-requires-clause-free : goal.append-requires-clause-free
append-requires-clause-free g c = free_at c.self.inside.slots c.self.inside.ends c.args.p c.args.k c.args.self.now c.lend-slots.result.now c.lend.result.now c.self.invariant c.self.view_is c.lend-slots.ensures.value c.lend.ensures.value c.requires.free

pub update_in-requires-clause-in_use : goal.update_in-requires-clause-in_use
update_in-requires-clause-in_use g c =
    subst (λ (pool : List (Option Thread)). IsSome (pool_get pool c.args.k)) (sym c.append.ensures.threads)
    (used_here c.self.inside.slots c.self.inside.ends c.args.p c.args.k c.args.self.now c.lend-slots.result.now c.self.view_is c.lend-slots.ensures.value c.requires.in_use)

pub invariant_of-self : goal.invariant_of-self
invariant_of-self g c =
    let done =
    let long : length c.append.new.ends ≡ length c.lend.result.now = search rules in
    relinked_at c.self.inside.slots c.self.inside.ends c.args.p c.args.self.now c.lend-slots.result.now c.append.new.slots c.lend.result.now c.append.new.ends (with_last c.args.name c.args.k)
    c.self.invariant c.self.view_is c.requires.partition c.lend-slots.ensures.value c.lend.ensures.value c.append.ensures.queues c.append.ensures.threads c.append.ensures.shared long c.append.ensures.lists in
    (moved_at c.self.inside.slots c.self.inside.ends c.args.p c.args.self.now c.lend-slots.result.now c.append.new.slots c.update_in.new.slots c.append.new.ends (pool_changed c.args.k (g.C.ThreadChange.changed c.args.change.now)) _
    c.self.view_is c.requires.partition c.lend-slots.ensures.value c.append.ensures.threads done c.update_in.ensures.links c.update_in.ensures.threads).linked

pub returns : goal.returns
returns g c =
    let done =
    let long : length c.append.new.ends ≡ length c.lend.result.now = search rules in
    relinked_at c.self.inside.slots c.self.inside.ends c.args.p c.args.self.now c.lend-slots.result.now c.append.new.slots c.lend.result.now c.append.new.ends (with_last c.args.name c.args.k)
    c.self.invariant c.self.view_is c.requires.partition c.lend-slots.ensures.value c.lend.ensures.value c.append.ensures.queues c.append.ensures.threads c.append.ensures.shared long c.append.ensures.lists in
    (moved_at c.self.inside.slots c.self.inside.ends c.args.p c.args.self.now c.lend-slots.result.now c.append.new.slots c.update_in.new.slots c.append.new.ends (pool_changed c.args.k (g.C.ThreadChange.changed c.args.change.now)) _
    c.self.view_is c.requires.partition c.lend-slots.ensures.value c.append.ensures.threads done c.update_in.ensures.links c.update_in.ensures.threads).view
