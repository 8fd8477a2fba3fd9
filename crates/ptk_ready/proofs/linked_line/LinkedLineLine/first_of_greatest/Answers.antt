use Rattle.std.proofs.Common.{◌∙◌, ap, lit<}
use Rattle.ptk_words.specs.Pools.{first_of_greatest}
use Rattle.ptk_words.specs.Parts.{part_of}
use Rattle.ptk_threads.specs.Table.{stored_of}
use Rattle.ptk_threads.specs.Links.{links_of, queues}
use Rattle.ptk_ready.specs.Lines.{line_of}
use Rattle.ptk_ready.proofs.Partitions.{read}
use Rattle.ptk_ready.proofs.linked_line.LinkedLineLine.first_of_greatest.Goals as goal

pub first_of_greatest-requires : goal.first_of_greatest-requires
first_of_greatest-requires g c =
    let lists = queues (links_of c.linked-part.result.slots.now) c.linked-part.result.ends.now in
    let was = read g.row.LIMIT c.self.inside.entries.items c.args.self.now c.args.threads.now c.args.p c.index.result lists c.stored.result.now c.index-entries.result.now
    c.self.view_is c.index.ensures c.requires.sound c.requires.partition.0 c.index-entries.ensures c.linked-part.ensures.lists c.stored.ensures.priorities in
    (lit< tt, (c.linked-part.ensures.sound, (was.filed, (c.linked-part.ensures.few, c.linked-part.ensures.places))))

pub returns : goal.returns
returns g c =
    let lists = queues (links_of c.linked-part.result.slots.now) c.linked-part.result.ends.now in
    let was = read g.row.LIMIT c.self.inside.entries.items c.args.self.now c.args.threads.now c.args.p c.index.result lists c.stored.result.now c.index-entries.result.now
    c.self.view_is c.index.ensures c.requires.sound c.requires.partition.0 c.index-entries.ensures c.linked-part.ensures.lists c.stored.ensures.priorities in
    c.first_of_greatest.ensures ∙ (ap (λ s. first_of_greatest (stored_of s) (line_of lists c.index-entries.result.now.stamps)) c.stored.ensures.priorities
    ∙ ap (first_of_greatest (stored_of (part_of c.args.threads.now.stored c.args.p))) was.same)
