use Rattle.std.proofs.Common.{◌<◌, ◌≤◌, length, sym, ◌∙◌, ap, subst, arith}
use Rattle.ptk_words.specs.Parts.{part_of}
use Rattle.ptk_threads.specs.Table.{ThreadTable, AreLevelsOf, stored_of}
use Rattle.ptk_threads.specs.Links.{links_of}
use Rattle.ptk_threads.proofs.LinkSlots.{links_count}
use Rattle.ptk_ready.specs.Queues.{waiters_of}
use Rattle.ptk_roster.specs.Rosters.{Rostered}
use Rattle.ptk_roster.proofs.Pools.{line_parts, moved_whole}
use Rattle.ptk_roster.proofs.Stores.{line_ready, stored_lined}
use Rattle.ptk_roster.proofs.roster.Roster.store.Goals as goal

pub invariant_of-self : goal.invariant_of-self
invariant_of-self c =
    let links = links_of c.linked-part.result.slots.now in
    let few : length links ≤ 32 = omega (arith, links_count c.linked-part.result.slots.now, c.linked-part.ensures.few) in
    let below = (line_parts 4611686018427387904 c.self.inside.line c.self.inside.threads c.self.inside.mutexes c.self.inside.conditions c.args.self.now c.args.p c.self.view_is c.self.invariant c.requires.partition).1 in
    let lt : c.args.p < length c.self.inside.line = omega (arith, below, c.self.invariant.lined.parts) in
    let levels = subst (λ (n : Rostered). AreLevelsOf (part_of n.table.threads c.args.p) c.args.priorities.now) (sym c.self.view_is) c.requires.levels in
    moved_whole 4611686018427387904 c.self.inside.line c.self.inside.line c.self.inside.threads c.store.new.self c.self.inside.mutexes c.self.inside.conditions
    (stored_lined 4611686018427387904 c.self.inside.line c.self.inside.threads c.store.new.self c.args.p c.args.priorities.now c.store.ensures levels
    (λ k inside. c.keeps_ready.ensures.0 c.if-keeps_ready.true k (line_ready c.self.inside.line c.self.inside.threads links c.linked-part.result.ends.now c.args.p k c.linked-part.ensures.sound c.linked-part.ensures.lists few lt inside)
    ∙ ap (λ s. stored_of s k) c.stored.ensures.priorities) c.self.invariant.lined)
    (ap (λ (t : ThreadTable). waiters_of t.queues) c.store.ensures) (ap (λ (t : ThreadTable). t.threads) c.store.ensures) c.self.invariant
