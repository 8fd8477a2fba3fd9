use Rattle.std.proofs.Common.{◌≡◌, [], refl, sym, ◌∙◌, ap, subst, drop, set, lit<}
use Rattle.std.proofs.lemmas.List.{get_or-set_other, set-get_or}
use Rattle.ptk_words.specs.Pools.{is_in, pool_set}
use Rattle.ptk_words.specs.Parts.{part_of}
use Rattle.ptk_threads.specs.Table.{ThreadTable, with_queues}
use Rattle.ptk_threads.specs.Links.{links_of, queues}
use Rattle.ptk_ready.specs.Lines.{line_of, with_refiled, IsFiled}
use Rattle.ptk_ready.specs.Partitions.{lines_by}
use Rattle.ptk_ready.proofs.Partitions.{moved, read, put_back, priority_out, stored_here, slot_of_member}
use Rattle.ptk_ready.proofs.linked_line.LinkedLineLine.set_priority.Goals as goal

pub returns-then-not-contains-clause-sound : goal.returns-then-not-contains-clause-sound
returns-then-not-contains-clause-sound g c =
    let lists = queues (links_of c.linked-part.result.slots.now) c.linked-part.result.ends.now in
    let was = read g.row.LIMIT c.self.inside.entries.items c.args.self.now c.args.threads.now c.args.p c.index.result lists (part_of c.args.threads.now.stored c.args.p) c.index_mut-entries.result.now
    c.self.view_is c.index.ensures c.requires.sound c.requires.partition.0 c.index_mut-entries.ensures.value c.linked-part.ensures.lists refl in
    rw (put_back g.row.LIMIT c.self.inside.entries.items c.args.self.now c.index.result c.index_mut-entries.result.now c.self.view_is c.index_mut-entries.ensures.value, c.set_stored_priority.ensures)
    (priority_out g.row.LIMIT c.args.self.now c.args.threads.now c.args.p c.args.k c.level.result c.requires.sound (ap (is_in c.args.k) (sym was.same) ∙ (sym c.contains.ensures ∙ c.if-not-contains.true)))

pub refile-before-requires : goal.refile-before-requires
refile-before-requires g c =
    let lists = queues (links_of c.linked-part.result.slots.now) c.linked-part.result.ends.now in
    let was = read g.row.LIMIT c.self.inside.entries.items c.args.self.now c.args.threads.now c.args.p c.index.result lists c.stored.result.now c.index_mut-entries.result.now
    c.self.view_is c.index.ensures c.requires.sound c.requires.partition.0 c.index_mut-entries.ensures.value c.linked-part.ensures.lists c.stored.ensures.priorities in
    (lit< tt, (c.linked-part.ensures.sound, (was.filed, ((c.linked-part.ensures.few, c.linked-part.ensures.places), sym c.contains.ensures ∙ c.if-not-contains.false))))

pub refile-requires-clause-slot : goal.refile-requires-clause-slot
refile-requires-clause-slot g c = rw c.set_stored_priority-2.ensures
    (slot_of_member c.linked-part.result.slots.now c.linked-part.result.ends.now c.index_mut-entries.result.now.stamps c.args.threads.now c.args.p c.args.k
    c.linked-part.ensures.threads c.linked-part.ensures.sound c.linked-part.ensures.few (sym c.contains.ensures ∙ c.if-not-contains.false))

pub returns : goal.returns
returns g c =
    let lists = queues (links_of c.linked-part.result.slots.now) c.linked-part.result.ends.now in
    let was = read g.row.LIMIT c.self.inside.entries.items c.args.self.now c.args.threads.now c.args.p c.index.result lists c.stored.result.now c.index_mut-entries.result.now
    c.self.view_is c.index.ensures c.requires.sound c.requires.partition.0 c.index_mut-entries.ensures.value c.linked-part.ensures.lists c.stored.ensures.priorities in
    let after = with_refiled c.refile-before.result c.args.priority c.args.k (part_of c.args.threads.now.queues c.args.p) in
    let same : with_refiled c.refile-before.result c.args.priority c.args.k lists ≡ after = ap (with_refiled c.refile-before.result c.args.priority c.args.k) c.linked-part.ensures.lists in
    let is = c.refile.ensures ∙ ap (with_queues c.args.p (with_refiled c.refile-before.result c.args.priority c.args.k)) c.set_stored_priority-2.ensures in
    let levels : pool_set c.stored.result.now c.args.k c.args.priority ≡ part_of c.refile.new.threads.stored c.args.p =
    ap (λ s. pool_set s c.args.k c.args.priority) c.stored.ensures.priorities ∙ (ap (pool_set (part_of c.args.threads.now.stored c.args.p) c.args.k) (sym c.level-2.ensures.value)
    ∙ (sym (stored_here c.args.threads.now.stored c.args.p c.args.k c.level-2.result) ∙ sym (ap (λ (t : ThreadTable). part_of t.stored c.args.p) is))) in
    let done = moved g.row.LIMIT c.args.self.now c.args.threads.now c.refile.new.threads c.args.p c.refile-before.new.self after (part_of (lines_by c.args.self.now c.args.threads.now.queues) c.args.p)
    c.requires.sound was.within (ap (λ (t : ThreadTable). t.queues) is)
    (λ q ne. ap (λ (t : ThreadTable). part_of t.stored q) is ∙ get_or-set_other c.args.threads.now.stored c.args.p q _ [] ne)
    (subst (λ s. IsFiled g.row.LIMIT c.refile-before.new.self.range after s c.refile-before.new.self.stamps c.refile-before.new.self.bitmap) levels
    (subst (λ l. IsFiled g.row.LIMIT c.refile-before.new.self.range l (pool_set c.stored.result.now c.args.k c.args.priority) c.refile-before.new.self.stamps c.refile-before.new.self.bitmap) same c.refile-before.ensures.sound))
    (ap (λ l. line_of l c.refile-before.new.self.stamps) (sym same) ∙ (c.refile-before.ensures.line ∙ was.same))
    (ap (drop 32) (sym same) ∙ (c.refile-before.ensures.waiters ∙ ap (drop 32) c.linked-part.ensures.lists)) in
    rw (c.self.view_is, c.index.ensures) (record {
      sound = done.sound;
      waiters = done.waiters;
      line = done.told ∙ set-get_or (lines_by c.args.self.now c.args.threads.now.queues) c.args.p [];
      threads = ap (λ (t : ThreadTable). t.threads) is;
      stored = ap (λ (t : ThreadTable). t.stored) is ∙ ap (λ v. set c.args.threads.now.stored c.args.p (pool_set (part_of c.args.threads.now.stored c.args.p) c.args.k v)) c.level-2.ensures.value;
    })
