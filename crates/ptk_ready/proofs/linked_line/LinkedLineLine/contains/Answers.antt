use Rattle.std.proofs.Common.{refl, ◌∙◌, ap}
use Rattle.ptk_words.specs.Pools.{is_in}
use Rattle.ptk_words.specs.Parts.{part_of}
use Rattle.ptk_threads.specs.Links.{links_of, queues}
use Rattle.ptk_ready.proofs.Partitions.{read}
use Rattle.ptk_ready.proofs.linked_line.LinkedLineLine.contains.Goals as goal

pub returns : goal.returns
returns g c =
    let lists = queues (links_of c.linked-part.result.slots.now) c.linked-part.result.ends.now in
    let was = read g.row.LIMIT c.self.inside.entries.items c.args.self.now c.args.threads.now c.args.p c.index.result lists (part_of c.args.threads.now.stored c.args.p) c.index-entries.result.now
    c.self.view_is c.index.ensures c.requires.sound c.requires.partition.0 c.index-entries.ensures c.linked-part.ensures.lists refl in
    c.contains.ensures ∙ ap (is_in c.args.k) was.same
