use Rattle.std.proofs.Common.{◌≡◌, ℕ, length, refl, sym, ◌∙◌, ap, subst, rules}
use Rattle.std.specs.Prelude.{Option, option_map}
use Rattle.ptk_words.specs.Pools.{first_of_greatest, without}
use Rattle.ptk_words.specs.Parts.{part_of}
use Rattle.ptk_threads.specs.Table.{ThreadTable, stored_of}
use Rattle.ptk_threads.specs.Queues.{without_first}
use Rattle.ptk_threads.specs.declared.link.QueueName.TheVariants.{Ready}
use Rattle.ptk_threads.specs.Links.{place_of}
use Rattle.ptk_ready.specs.declared.entries.LinkedEntries.{LinkedEntries}
use Rattle.ptk_ready.specs.Bits.{IsGreatestBit}
use Rattle.ptk_ready.specs.Lines.{line_of, IsFiled}
use Rattle.ptk_ready.specs.Partitions.{lines_by}
use Rattle.ptk_ready.specs.Laws.{lines_long}
use Rattle.ptk_ready.proofs.Firsts.{none_found}
use Rattle.ptk_ready.proofs.Taken.{taken_first, some_first}
use Rattle.ptk_ready.proofs.Partitions.{moved, read}
use Rattle.ptk_ready.proofs.linked_line.LinkedLineLine.take_first.Goals as goal

pub index_mut-entries-requires : goal.index_mut-entries-requires
index_mut-entries-requires g c =
    let long : length (lines_by c.args.self.now c.args.threads.now.queues) ≡ length c.args.self.now = lines_long c.args.self.now c.args.threads.now.queues in
    let same : length c.self.inside.entries.items ≡ length c.args.self.now = ap length c.self.view_is in
    search rules

pub returns-in_default-clause-first : goal.returns-in_default-clause-first
returns-in_default-clause-first g c =
    let was = read g.row.LIMIT c.self.inside.entries.items c.args.self.now c.args.threads.now c.args.p c.index.result (part_of c.args.threads.now.queues c.args.p) (part_of c.args.threads.now.stored c.args.p) c.index_mut-entries.result.now
    c.self.view_is c.index.ensures c.requires.sound c.requires.partition.0 c.index_mut-entries.ensures.value refl refl in
    none_found g.row.LIMIT c.index_mut-entries.result.now.range (part_of c.args.threads.now.queues c.args.p) (part_of c.args.threads.now.stored c.args.p) c.index_mut-entries.result.now.stamps c.index_mut-entries.result.now.bitmap was.filed
    (subst (λ (o : Option ℕ). IsGreatestBit c.index_mut-entries.result.now.bitmap (option_map (λ priority. place_of (Ready priority)) o)) c.in_default.is c.greatest_priority.ensures)
    ∙ ap (first_of_greatest (stored_of (part_of c.args.threads.now.stored c.args.p))) was.same

pub returns-in_default-take_first : goal.returns-in_default-take_first
returns-in_default-take_first g c =
    let was = read g.row.LIMIT c.self.inside.entries.items c.args.self.now c.args.threads.now c.args.p c.index.result (part_of c.args.threads.now.queues c.args.p) (part_of c.args.threads.now.stored c.args.p) c.index_mut-entries.result.now
    c.self.view_is c.index.ensures c.requires.sound c.requires.partition.0 c.index_mut-entries.ensures.value refl refl in
    absurd (some_first g.row.LIMIT c.index_mut-entries.result.now.range (part_of c.args.threads.now.queues c.args.p) (part_of c.args.threads.now.stored c.args.p) c.index_mut-entries.result.now.stamps c.index_mut-entries.result.now.bitmap (Ready c.in-Some.priority) was.filed
    (subst (λ (o : Option ℕ). IsGreatestBit c.index_mut-entries.result.now.bitmap (option_map (λ priority. place_of (Ready priority)) o)) c.in-Some.is c.greatest_priority.ensures)
    (sym c.in_default-take_first.is ∙ c.take_first.ensures.first))

pub returns : goal.returns
returns g c =
    let lists = part_of c.args.threads.now.queues c.args.p in
    let stored = part_of c.args.threads.now.stored c.args.p in
    let was = read g.row.LIMIT c.self.inside.entries.items c.args.self.now c.args.threads.now c.args.p c.index.result (part_of c.args.threads.now.queues c.args.p) (part_of c.args.threads.now.stored c.args.p) c.index_mut-entries.result.now
    c.self.view_is c.index.ensures c.requires.sound c.requires.partition.0 c.index_mut-entries.ensures.value refl refl in
    let old = c.index_mut-entries.result.now in
    let new = c.first_left.new.self in
    let k = c.in-Some-take_first.first.thread in
    let after = without_first (Ready c.in-Some.priority) (part_of c.args.threads.now.queues c.args.p) in
    let top = subst (λ (o : Option ℕ). IsGreatestBit c.index_mut-entries.result.now.bitmap (option_map (λ priority. place_of (Ready priority)) o)) c.in-Some.is c.greatest_priority.ensures in
    let taken = taken_first g.row.LIMIT old.range lists stored old.stamps old.bitmap c.first_left.new.self.bitmap (Ready c.in-Some.priority) c.in-Some-take_first.first was.filed top
    (sym c.in-Some-take_first.is ∙ c.take_first.ensures.first) (c.first_left.ensures.bitmap top.1) in
    let filed = subst (λ (e : LinkedEntries g.row.LIMIT). IsFiled g.row.LIMIT e.range after stored e.stamps e.bitmap) (sym c.first_left.ensures.rest) taken.0.sound in
    let done = moved g.row.LIMIT c.args.self.now c.args.threads.now c.take_first.new.self c.args.p c.first_left.new.self after (without k (part_of (lines_by c.args.self.now c.args.threads.now.queues) c.args.p))
    c.requires.sound was.within (ap (λ (t : ThreadTable). t.queues) c.take_first.ensures.table) (λ q ne. ap (λ (t : ThreadTable). part_of t.stored q) c.take_first.ensures.table)
    (rw (ap (λ (t : ThreadTable). t.stored) c.take_first.ensures.table) filed)
    (ap (λ (e : LinkedEntries g.row.LIMIT). line_of after e.stamps) c.first_left.ensures.rest ∙ (taken.0.line ∙ ap (without k) was.same))
    taken.0.waiters in
    rw (c.self.view_is, c.index.ensures) (record {
      first = taken.1 ∙ ap (first_of_greatest (stored_of stored)) was.same;
      sound = done.sound;
      waiters = done.waiters;
      line = done.told;
      threads = ap (λ (t : ThreadTable). t.threads) c.take_first.ensures.table;
      stored = ap (λ (t : ThreadTable). t.stored) c.take_first.ensures.table;
    })
