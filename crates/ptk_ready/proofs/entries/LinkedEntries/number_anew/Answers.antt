use Rattle.std.proofs.Common.{◌≡◌, ◌≤◌, length, ◌∙◌, ap, sym, subst, rules, arith}
use Rattle.ptk_threads.specs.Links.{links_of}
use Rattle.ptk_threads.proofs.LinkSlots.{links_count}
use Rattle.ptk_ready.specs.Entries.{entries, AreStamps}
use Rattle.ptk_ready.proofs.Ranks.{numbered_anew}
use Rattle.ptk_ready.proofs.entries.LinkedEntries.number_anew.Goals as goal

pub returns-clause-stamps : goal.returns-clause-stamps
returns-clause-stamps g c =
    let few : length (links_of c.args.slots.now) ≤ 32 = omega (arith, links_count c.args.slots.now, c.requires.few) in
    let long : length c.args.self.now.stamps ≡ 32 = search rules in
    subst (AreStamps g.row.LIMIT _ (links_of c.args.slots.now)) (sym c.renumbered-self.ensures)
    (numbered_anew g.row.LIMIT c.args.self.now.range (links_of c.args.slots.now) c.args.self.now.stamps c.requires.stamps few long c.requires.limit).stamped

pub returns-clause-line : goal.returns-clause-line
returns-clause-line g c =
    let few : length (links_of c.args.slots.now) ≤ 32 = omega (arith, links_count c.args.slots.now, c.requires.few) in
    let long : length c.args.self.now.stamps ≡ 32 = search rules in
    ap (entries (links_of c.args.slots.now)) c.renumbered-self.ensures
    ∙ (numbered_anew g.row.LIMIT c.args.self.now.range (links_of c.args.slots.now) c.args.self.now.stamps c.requires.stamps few long c.requires.limit).line
