use Rattle.std.proofs.Common.{◌≡◌, ℕ, ◌<◌, ◌≤◌, List, [], ◌∷◌, ◌++◌, drop, false, sym, ◌∙◌, ap, subst, lit<}
use Rattle.ptk_words.specs.Pools.{is_in}
use Rattle.ptk_words.specs.Parts.{part_of}
use Rattle.ptk_threads.specs.Table.{ThreadTable, stored_of}
use Rattle.ptk_threads.specs.Queues.{IsUnqueued, with_last}
use Rattle.ptk_threads.specs.Links.{links_of, queues}
use Rattle.ptk_ready.specs.Lines.{line_of}
use Rattle.ptk_ready.specs.Partitions.{lines_by}
use Rattle.ptk_ready.proofs.Partitions.{moved, read, slot_of_used, number_of_used}
use Rattle.ptk_ready.proofs.linked_line.LinkedLineLine.push_tail.Goals as goal

pub push_tail-name-requires : goal.push_tail-name-requires
push_tail-name-requires g c =
    let lists = queues (links_of c.linked-part.result.slots.now) c.linked-part.result.ends.now in
    let was = read g.row.LIMIT c.self.inside.entries.items c.args.self.now c.args.threads.now c.args.p c.index.result lists c.stored.result.now c.index_mut-entries.result.now
    c.self.view_is c.index.ensures c.requires.sound c.requires.partition.0 c.index_mut-entries.ensures.value c.linked-part.ensures.lists c.stored.ensures.priorities in
    let slot = slot_of_used c.linked-part.result.slots.now c.args.threads.now c.args.p c.args.k c.linked-part.ensures.threads c.requires.in_use in
    let free = subst (IsUnqueued c.args.k) (sym c.linked-part.ensures.lists) c.requires.free in
    let apart : (i : ℕ) → i < 32 → is_in c.args.k (part_of lists i) ≡ false = λ i lt. free i in
    let priority = subst (λ (s : List ℕ). (0 < stored_of s c.args.k) × (stored_of s c.args.k ≤ 32)) (sym c.stored.ensures.priorities) c.requires.priority in
    (lit< tt, (c.linked-part.ensures.sound, (was.filed, (c.self.invariant, ((c.linked-part.ensures.few, c.linked-part.ensures.places), (slot, (apart, priority)))))))

pub append-requires-clause-slot : goal.append-requires-clause-slot
append-requires-clause-slot g c = number_of_used c.args.threads.now c.args.p c.args.k c.requires.in_use

pub returns : goal.returns
returns g c =
    let lists = queues (links_of c.linked-part.result.slots.now) c.linked-part.result.ends.now in
    let was = read g.row.LIMIT c.self.inside.entries.items c.args.self.now c.args.threads.now c.args.p c.index.result lists c.stored.result.now c.index_mut-entries.result.now
    c.self.view_is c.index.ensures c.requires.sound c.requires.partition.0 c.index_mut-entries.ensures.value c.linked-part.ensures.lists c.stored.ensures.priorities in
    let after = with_last c.push_tail-name.result c.args.k (part_of c.args.threads.now.queues c.args.p) in
    let same : with_last c.push_tail-name.result c.args.k lists ≡ after = ap (with_last c.push_tail-name.result c.args.k) c.linked-part.ensures.lists in
    let done = moved g.row.LIMIT c.args.self.now c.args.threads.now c.append.new.self c.args.p c.push_tail-name.new.self after (part_of (lines_by c.args.self.now c.args.threads.now.queues) c.args.p ++ c.args.k ∷ [])
    c.requires.sound was.within (ap (λ (t : ThreadTable). t.queues) c.append.ensures) (λ q ne. ap (λ (t : ThreadTable). part_of t.stored q) c.append.ensures)
    (rw (ap (λ (t : ThreadTable). t.stored) c.append.ensures, ← same, ← c.stored.ensures.priorities) c.push_tail-name.ensures.sound)
    (ap (λ l. line_of l c.push_tail-name.new.self.stamps) (sym same) ∙ (c.push_tail-name.ensures.line ∙ ap (λ l. l ++ c.args.k ∷ []) was.same))
    (ap (drop 32) (sym same) ∙ (c.push_tail-name.ensures.waiters ∙ ap (drop 32) c.linked-part.ensures.lists)) in
    rw (c.self.view_is, c.index.ensures) (record {
      sound = done.sound;
      waiters = done.waiters;
      line = done.told;
      threads = ap (λ (t : ThreadTable). t.threads) c.append.ensures;
      stored = ap (λ (t : ThreadTable). t.stored) c.append.ensures;
    })
