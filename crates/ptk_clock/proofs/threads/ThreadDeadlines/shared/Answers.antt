use Rattle.std.proofs.Common.{◌<◌, ◌≡◌, List, Option, length, subst}
use Rattle.ptk_words.specs.Names.{Tick}
use Rattle.ptk_words.specs.Parts.{part_of}
use Rattle.ptk_clock.specs.BySlot.{deadlines_from}
use Rattle.ptk_clock.specs.ByThread.{first_slot}
use Rattle.ptk_clock.proofs.ByThread.{read_from}
use Rattle.ptk_clock.proofs.threads.ThreadDeadlines.shared.Goals as goal

pub returns : goal.returns
returns c = λ p.
    let P : List (List (Option Tick)) → Type 0 = λ value. p < length value → part_of value p ≡ deadlines_from (first_slot p value) (length (part_of value p)) c.self.inside.queue.pairs in
    subst P c.self.view_is (λ lt. read_from c.self.inside.queue.slots p c.self.inside.partitions.items c.self.inside.queue.pairs c.self.invariant.laid lt)
