use Rattle.std.proofs.Common.{◌≡◌, ℕ, ◌<◌, ◌≤◌, List, [], ◌∷◌, ◌++◌, drop, false, sym, ◌∙◌, ap, subst, arith, lit<}
use Rattle.std.specs.Prelude.{Option, IfSome}
use Rattle.std.proofs.Math.ListN.{set}
use Rattle.std.proofs.lemmas.List.{set-get_or}
use Rattle.ptk_words.specs.Pools.{is_in}
use Rattle.ptk_words.specs.Parts.{part_of}
use Rattle.ptk_threads.specs.Table.{ThreadTable, stored_of}
use Rattle.ptk_threads.specs.Queues.{IsUnqueued, with_last}
use Rattle.ptk_threads.specs.declared.link.QueueName.{QueueName}
use Rattle.ptk_threads.specs.Links.{links_of, place_of, queues}
use Rattle.ptk_ready.specs.Queues.{waiters_of, with_out_of}
use Rattle.ptk_ready.specs.Lines.{line_of}
use Rattle.ptk_ready.specs.Partitions.{lines_by}
use Rattle.ptk_ready.specs.Laws.{lines_same, filed_apart}
use Rattle.ptk_ready.proofs.Partitions.{moved, read, roused, away_same, slot_of_used}
use Rattle.ptk_ready.proofs.linked_line.LinkedLine.rouse.Goals.{in-Some, in-None}
use Rattle.ptk_ready.proofs.linked_line.LinkedLine.rouse.Goals as goal

pub push_tail-name-requires : goal.push_tail-name-requires
push_tail-name-requires g c =
    let lists = queues (links_of c.linked-part.result.slots.now) c.linked-part.result.ends.now in
    let was = read g.row.LIMIT c.self.inside.entries.items c.args.self.now c.args.threads.now c.args.p c.index.result lists c.stored.result.now c.index_mut-entries.result.now
    c.self.view_is c.index.ensures c.requires.sound c.requires.partition.0 c.index_mut-entries.ensures.value c.linked-part.ensures.lists c.stored.ensures.priorities in
    let slot = slot_of_used c.linked-part.result.slots.now c.args.threads.now c.args.p c.args.k c.linked-part.ensures.threads c.requires.in_use in
    let apart : (i : ℕ) → i < 32 → is_in c.args.k (part_of lists i) ≡ false =
    λ i lt. subst (λ l. is_in c.args.k (part_of l i) ≡ false) (sym c.linked-part.ensures.lists) (filed_apart g.row.LIMIT c.args.self.now c.args.threads.now c.args.p c.args.k i c.requires.sound c.requires.fresh lt) in
    let priority = subst (λ (s : List ℕ). (0 < stored_of s c.args.k) × (stored_of s c.args.k ≤ 32)) (sym c.stored.ensures.priorities) c.requires.priority in
    (lit< tt, (c.linked-part.ensures.sound, (was.filed, (c.self.invariant, ((c.linked-part.ensures.few, c.linked-part.ensures.places), (slot, (apart, priority)))))))

pub pass_updated-requires-clause-free : goal.pass_updated-requires-clause-free
pass_updated-requires-clause-free g c = subst (λ (o : Option QueueName). IsUnqueued c.args.k (with_out_of o c.args.k (part_of c.args.threads.now.queues c.args.p))) c.in-Some.is c.requires.free

pub append_updated-requires-clause-free : goal.append_updated-requires-clause-free
append_updated-requires-clause-free g c = subst (λ (o : Option QueueName). IsUnqueued c.args.k (with_out_of o c.args.k (part_of c.args.threads.now.queues c.args.p))) c.in-None.is c.requires.free

pub returns : goal.returns
returns g c =
    let lists = queues (links_of c.linked-part.result.slots.now) c.linked-part.result.ends.now in
    let was = read g.row.LIMIT c.self.inside.entries.items c.args.self.now c.args.threads.now c.args.p c.index.result lists c.stored.result.now c.index_mut-entries.result.now
    c.self.view_is c.index.ensures c.requires.sound c.requires.partition.0 c.index_mut-entries.ensures.value c.linked-part.ensures.lists c.stored.ensures.priorities in
    let priority = subst (λ (s : List ℕ). (0 < stored_of s c.args.k) × (stored_of s c.args.k ≤ 32)) (sym c.stored.ensures.priorities) c.requires.priority in
    let low : place_of c.push_tail-name.result < 32 = omega (arith, ap place_of c.push_tail-name.ensures.queue, priority.0, priority.1) in
    let line : List ℕ = part_of (lines_by c.args.self.now c.args.threads.now.queues) c.args.p ++ c.args.k ∷ [] in
    elim c.match-from.branch [
      | in-Some w ↦
          (let from = w.in-Some.from in
          let far : 32 ≤ place_of from = subst (λ (o : Option QueueName). IfSome o (λ name. 32 ≤ place_of name)) w.in-Some.is c.requires.waiters in
          let done = roused g.row.LIMIT c.args.self.now c.args.threads.now w.pass_updated.new.self c.args.p c.args.k from c.push_tail-name.result c.push_tail-name.new.self lists c.stored.result.now
          line c.requires.sound was.within far low
          (ap (λ (t : ThreadTable). t.queues) w.pass_updated.ensures) (ap (λ (t : ThreadTable). t.stored) w.pass_updated.ensures) c.linked-part.ensures.lists c.stored.ensures.priorities
          c.push_tail-name.ensures.sound (c.push_tail-name.ensures.line ∙ ap (λ l. l ++ c.args.k ∷ []) was.same) in
          rw (c.self.view_is, c.index.ensures, w.in-Some.is, w.threads-is) (record {
            sound = done.sound;
            waiters = done.waiters;
            line = done.told ∙ ap (λ lines. set lines c.args.p line) (sym (lines_same c.args.self.now c.args.threads.now.queues _ (away_same c.args.p c.args.k from c.args.threads.now far)));
            threads = ap (λ (t : ThreadTable). t.threads) w.pass_updated.ensures;
            stored = ap (λ (t : ThreadTable). t.stored) w.pass_updated.ensures;
          }))
      | in-None w ↦
          (let after = with_last c.push_tail-name.result c.args.k (part_of c.args.threads.now.queues c.args.p) in
          let same : with_last c.push_tail-name.result c.args.k lists ≡ after = ap (with_last c.push_tail-name.result c.args.k) c.linked-part.ensures.lists in
          let done = moved g.row.LIMIT c.args.self.now c.args.threads.now w.append_updated.new.self c.args.p c.push_tail-name.new.self after line
          c.requires.sound was.within (ap (λ (t : ThreadTable). t.queues) w.append_updated.ensures) (λ q ne. ap (λ (t : ThreadTable). part_of t.stored q) w.append_updated.ensures)
          (rw (ap (λ (t : ThreadTable). t.stored) w.append_updated.ensures, ← same, ← c.stored.ensures.priorities) c.push_tail-name.ensures.sound)
          (ap (λ l. line_of l c.push_tail-name.new.self.stamps) (sym same) ∙ (c.push_tail-name.ensures.line ∙ ap (λ l. l ++ c.args.k ∷ []) was.same))
          (ap (drop 32) (sym same) ∙ (c.push_tail-name.ensures.waiters ∙ ap (drop 32) c.linked-part.ensures.lists)) in
          rw (c.self.view_is, c.index.ensures, w.in-None.is, w.threads-is) (record {
            sound = done.sound;
            waiters = done.waiters ∙ ap waiters_of (sym (set-get_or c.args.threads.now.queues c.args.p []));
            line = done.told;
            threads = ap (λ (t : ThreadTable). t.threads) w.append_updated.ensures;
            stored = ap (λ (t : ThreadTable). t.stored) w.append_updated.ensures;
          }))
    ]
