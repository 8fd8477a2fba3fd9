use Rattle.std.proofs.Common.{◌≤◌, length, sym, ◌∙◌, ap, arith}
use Rattle.std.specs.Prelude.{option_map}
use Rattle.ptk_words.specs.Pools.{is_in}
use Rattle.ptk_threads.specs.declared.link.Link.{Link}
use Rattle.ptk_threads.specs.Links.{links_of, place_of}
use Rattle.ptk_threads.proofs.LinkSlots.{links_count}
use Rattle.ptk_ready.specs.Entries.{is_ready_place}
use Rattle.ptk_ready.proofs.Ready.{in_entries}
use Rattle.ptk_ready.proofs.Lists.{line_same}
use Rattle.ptk_ready.proofs.entries.LinkedEntries.contains.Goals as goal

pub returns : goal.returns
returns g c =
    let links = links_of c.args.slots.now in
    let few : length links ≤ 32 = omega (arith, links_count c.args.slots.now, c.requires.few) in
    c.is_ready_queue.ensures ∙ ap (λ (l : Link). is_ready_place (option_map place_of l.queue)) c.link_of-link.ensures
    ∙ (sym (in_entries links c.args.self.now.stamps c.args.k) ∙ ap (is_in c.args.k) (line_same links c.args.ends.now c.args.self.now.stamps c.requires.queues few))
