use Rattle.std.proofs.Common.{◌≡◌, ◌∙◌, sym}
use Rattle.std.specs.Prelude.{Some}
use Rattle.ptk_words.specs.Pools.{pool_set}
use Rattle.ptk_clock.proofs.ByThread.{IsChange, within, laid_read, change, kept_back, view_back}
use Rattle.ptk_clock.proofs.threads.ThreadDeadlines.put.Goals.{in_default-via-in-Some+else-is_none, in_default-via-in_default}
use Rattle.ptk_clock.proofs.threads.ThreadDeadlines.put.Goals as goal

pub slots_at-slots-requires : goal.slots_at-slots-requires
slots_at-slots-requires c = within c.args.p c.self.inside.partitions.items c.deref.result.now c.self.inside.queue.pairs c.args.self.now c.deref.ensures.value c.self.view_is c.requires

-- ---- the only deadline of the partition

only : (c : goal.After-self-1) → IsChange c.args.p c.self.inside.partitions.len c.self.inside.partitions.items c.slots_at-slots.result c.self.inside.queue.pairs c.put_only.new.queue.pairs c.put_only.new.partitions
only c =
    change c.args.p c.self.inside.partitions.len c.self.inside.partitions.items c.deref.result.now c.deref_mut.result.now c.slots_at-slots.result c.self.inside.queue.pairs c.put_only.new.queue.pairs c.put_only.new.partitions
    c.deref.ensures.value c.slots_at-slots.ensures c.deref_mut.ensures.value c.deref_mut.ensures.len c.put_only.ensures.elsewhere c.put_only.ensures.least

pub invariant_of-self : goal.invariant_of-self
invariant_of-self c =
    kept_back c.self.inside.queue.slots c.put_only.new.queue.slots c.args.p c.self.inside.partitions.len c.self.inside.partitions.items c.slots_at-slots.result c.self.inside.queue.pairs c.put_only.new.queue.pairs c.put_only.new.partitions
    c.self.invariant c.put_only.ensures.slots (only c)

pub returns-in-Some : goal.returns-in-Some
returns-in-Some c =
    rw c.in-Some.is (view_back c.self.inside.queue.slots c.args.p c.self.inside.partitions.len c.self.inside.partitions.items c.slots_at-slots.result c.self.inside.queue.pairs c.put_only.new.queue.pairs c.put_only.new.partitions
    (λ ds. pool_set ds c.args.t (Some c.in-Some.deadline)) c.args.self.now c.self.invariant (only c) c.put_only.ensures.own c.self.view_is)

-- ---- by a pass over the queue

pub set_in-requires-clause-within : goal.set_in-requires-clause-within
set_in-requires-clause-within c =
    (laid_read c.self.inside.queue.slots c.args.p c.self.inside.partitions.items c.deref.result.now c.slots_at-slots.result c.self.inside.queue.pairs
    c.self.invariant c.deref.ensures.value c.slots_at-slots.ensures).high

pub keep_least-requires-clause-partition : goal.keep_least-requires-clause-partition
keep_least-requires-clause-partition c = within c.args.p c.self.inside.partitions.items c.deref_mut-in_default.result.now c.self.inside.queue.pairs c.args.self.now c.deref_mut-in_default.ensures.value c.self.view_is c.requires

passed : (c : goal.After-self-in_default-1) → IsChange c.args.p c.self.inside.partitions.len c.self.inside.partitions.items c.slots_at-slots.result c.self.inside.queue.pairs c.set_in.new.queue.pairs c.keep_least.new.partitions
passed c =
    change c.args.p c.self.inside.partitions.len c.self.inside.partitions.items c.deref.result.now c.deref_mut-in_default.result.now c.slots_at-slots.result c.self.inside.queue.pairs c.set_in.new.queue.pairs c.keep_least.new.partitions
    c.deref.ensures.value c.slots_at-slots.ensures c.deref_mut-in_default.ensures.value c.deref_mut-in_default.ensures.len c.set_in.ensures.elsewhere c.keep_least.ensures

pub invariant_of-self-in_default : goal.invariant_of-self-in_default
invariant_of-self-in_default c =
    kept_back c.self.inside.queue.slots c.set_in.new.queue.slots c.args.p c.self.inside.partitions.len c.self.inside.partitions.items c.slots_at-slots.result c.self.inside.queue.pairs c.set_in.new.queue.pairs c.keep_least.new.partitions
    c.self.invariant c.set_in.ensures.slots (passed c)

pub returns-in_default : goal.returns-in_default
returns-in_default c =
    let same : c.in_default.deadline ≡ c.args.deadline = elim c.in_default.branch [
      | in_default-via-in-Some+else-is_none w ↦ w.deadline-is ∙ sym w.in-Some.is
      | in_default-via-in_default w ↦ w.deadline-is
    ] in
    rw (sym same) (view_back c.self.inside.queue.slots c.args.p c.self.inside.partitions.len c.self.inside.partitions.items c.slots_at-slots.result c.self.inside.queue.pairs c.set_in.new.queue.pairs c.keep_least.new.partitions
    (λ ds. pool_set ds c.args.t c.in_default.deadline) c.args.self.now c.self.invariant (passed c) c.set_in.ensures.own c.self.view_is)
