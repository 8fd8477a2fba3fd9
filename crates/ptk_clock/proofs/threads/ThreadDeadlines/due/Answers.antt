use Rattle.std.proofs.Common.{◌≡◌, ◌+◌, ◌≤◌, ◌∙◌, sym, ap, arith, List, Option, None, option_map}
use Rattle.std.specs.Prelude.{slice_get}
use Rattle.ptk_words.specs.Names.{Tick}
use Rattle.ptk_words.specs.Parts.{part_of}
use Rattle.ptk_words_sync_invariant.specs.Withdrawal.{Expiry}
use Rattle.ptk_words_sync_invariant.specs.Expiries.{next_expiry}
use Rattle.ptk_clock.specs.declared.threads.PartitionSlots.{PartitionSlots}
use Rattle.ptk_clock.proofs.LeastDeadlines.{none_due}
use Rattle.ptk_clock.proofs.ByThread.{IsLaid, within, laid_read, least_read, part_of-by}
use Rattle.ptk_clock.proofs.threads.ThreadDeadlines.due.Goals as goal

pub slots_at-slots-requires : goal.slots_at-slots-requires
slots_at-slots-requires c = within c.args.p c.self.inside.partitions.items c.deref.result.now c.self.inside.queue.pairs c.args.self.now c.deref.ensures.value c.self.view_is c.requires

pub due_in-requires-clause-within : goal.due_in-requires-clause-within
due_in-requires-clause-within c =
    let is : IsLaid 0 c.self.inside.queue.slots c.slots_at-slots.result =
    laid_read c.self.inside.queue.slots c.args.p c.self.inside.partitions.items c.deref.result.now c.slots_at-slots.result c.self.inside.queue.pairs c.self.invariant c.deref.ensures.value c.slots_at-slots.ensures in
    let high : c.slots_at-slots.result.first + c.slots_at-slots.result.count ≤ c.self.inside.queue.slots = is.high in
    omega (arith, high, c.self.invariant.few)

pub due_in-requires-clause-threads : goal.due_in-requires-clause-threads
due_in-requires-clause-threads c =
    (laid_read c.self.inside.queue.slots c.args.p c.self.inside.partitions.items c.deref.result.now c.slots_at-slots.result c.self.inside.queue.pairs
    c.self.invariant c.deref.ensures.value c.slots_at-slots.ensures).count

pub returns-then-not-is_reached : goal.returns-then-not-is_reached
returns-then-not-is_reached c =
    let quiet : next_expiry c.args.now (part_of c.args.self.now c.args.p) ≡ None =
    none_due c.args.now c.slots_at-slots.result.next (part_of c.args.self.now c.args.p)
    (least_read c.self.inside.queue.slots c.args.p c.self.inside.partitions.items c.deref.result.now c.slots_at-slots.result c.self.inside.queue.pairs c.args.self.now
    c.self.invariant c.deref.ensures.value c.slots_at-slots.ensures c.self.view_is)
    (sym c.is_reached.ensures ∙ c.if-not-is_reached.true) in
    sym (ap (option_map (λ (a : Expiry). a.thread)) quiet)

pub returns : goal.returns
returns c =
    c.due_in.ensures
    ∙ ap (λ (ds : List (Option Tick)). option_map (λ (a : Expiry). a.thread) (next_expiry c.args.now ds))
    (sym (part_of-by c.args.p c.self.inside.partitions.items c.slots_at-slots.result c.self.inside.queue.pairs (ap (λ (ss : List PartitionSlots). slice_get ss c.args.p) (sym c.deref.ensures.value) ∙ c.slots_at-slots.ensures)))
    ∙ ap (λ (value : List (List (Option Tick))). option_map (λ (a : Expiry). a.thread) (next_expiry c.args.now (part_of value c.args.p))) c.self.view_is
