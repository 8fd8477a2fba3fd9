use Rattle.std.proofs.Common.{◌≡◌, refl, sym, ◌∙◌, ap, drop, lit<}
use Rattle.ptk_words.specs.Pools.{is_in, without}
use Rattle.ptk_words.specs.Parts.{part_of}
use Rattle.ptk_threads.specs.Table.{ThreadTable}
use Rattle.ptk_threads.specs.Queues.{with_none}
use Rattle.ptk_threads.specs.Links.{links_of, queues}
use Rattle.ptk_ready.specs.Lines.{line_of}
use Rattle.ptk_ready.specs.Partitions.{lines_by}
use Rattle.ptk_ready.proofs.Partitions.{moved, read, put_back, line_without}
use Rattle.ptk_ready.proofs.linked_line.LinkedLineLine.remove.Goals as goal

pub remove-requires : goal.remove-requires
remove-requires g c =
    let lists = queues (links_of c.linked-part.result.slots.now) c.linked-part.result.ends.now in
    let was = read g.row.LIMIT c.self.inside.entries.items c.args.self.now c.args.threads.now c.args.p c.index.result lists c.stored.result.now c.index_mut-entries.result.now
    c.self.view_is c.index.ensures c.requires.sound c.requires.partition.0 c.index_mut-entries.ensures.value c.linked-part.ensures.lists c.stored.ensures.priorities in
    (lit< tt, (c.linked-part.ensures.sound, (was.filed, ((c.linked-part.ensures.few, c.linked-part.ensures.places), sym c.contains.ensures ∙ c.if-not-contains.false))))

pub returns-then-not-contains-clause-line : goal.returns-then-not-contains-clause-line
returns-then-not-contains-clause-line g c =
    let lists = queues (links_of c.linked-part.result.slots.now) c.linked-part.result.ends.now in
    let was = read g.row.LIMIT c.self.inside.entries.items c.args.self.now c.args.threads.now c.args.p c.index.result lists (part_of c.args.threads.now.stored c.args.p) c.index_mut-entries.result.now
    c.self.view_is c.index.ensures c.requires.sound c.requires.partition.0 c.index_mut-entries.ensures.value c.linked-part.ensures.lists refl in
    rw (put_back g.row.LIMIT c.self.inside.entries.items c.args.self.now c.index.result c.index_mut-entries.result.now c.self.view_is c.index_mut-entries.ensures.value)
    (line_without (lines_by c.args.self.now c.args.threads.now.queues) c.args.p c.args.k (ap (is_in c.args.k) (sym was.same) ∙ (sym c.contains.ensures ∙ c.if-not-contains.true)))

pub returns : goal.returns
returns g c =
    let lists = queues (links_of c.linked-part.result.slots.now) c.linked-part.result.ends.now in
    let was = read g.row.LIMIT c.self.inside.entries.items c.args.self.now c.args.threads.now c.args.p c.index.result lists c.stored.result.now c.index_mut-entries.result.now
    c.self.view_is c.index.ensures c.requires.sound c.requires.partition.0 c.index_mut-entries.ensures.value c.linked-part.ensures.lists c.stored.ensures.priorities in
    let after = with_none c.args.k (part_of c.args.threads.now.queues c.args.p) in
    let same : with_none c.args.k lists ≡ after = ap (with_none c.args.k) c.linked-part.ensures.lists in
    let done = moved g.row.LIMIT c.args.self.now c.args.threads.now c.take.new.self c.args.p c.remove.new.self after (without c.args.k (part_of (lines_by c.args.self.now c.args.threads.now.queues) c.args.p))
    c.requires.sound was.within (ap (λ (t : ThreadTable). t.queues) c.take.ensures) (λ q ne. ap (λ (t : ThreadTable). part_of t.stored q) c.take.ensures)
    (rw (ap (λ (t : ThreadTable). t.stored) c.take.ensures, ← same, ← c.stored.ensures.priorities) c.remove.ensures.sound)
    (ap (λ l. line_of l c.remove.new.self.stamps) (sym same) ∙ (c.remove.ensures.line ∙ ap (without c.args.k) was.same))
    (ap (drop 32) (sym same) ∙ (c.remove.ensures.waiters ∙ ap (drop 32) c.linked-part.ensures.lists)) in
    rw (c.self.view_is, c.index.ensures) (record {
      sound = done.sound;
      waiters = done.waiters;
      line = done.told;
      threads = ap (λ (t : ThreadTable). t.threads) c.take.ensures;
      stored = ap (λ (t : ThreadTable). t.stored) c.take.ensures;
    })
