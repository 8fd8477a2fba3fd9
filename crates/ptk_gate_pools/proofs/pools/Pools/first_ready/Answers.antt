use Rattle.std.proofs.Common.{sym, subst}
use Rattle.ptk_words.specs.Parts.{part_of}
use Rattle.ptk_gate_pools.specs.Kept.{AreInUse}
use Rattle.ptk_gate_pools.specs.Held.{Held}
use Rattle.ptk_gate_pools.proofs.Ranks.{stored_first}
use Rattle.ptk_gate_pools.proofs.pools.Pools.first_ready.Goals as goal

pub returns : goal.returns
returns c =
    let used : AreInUse (part_of c.self.inside.roster.table.threads c.self.inside.hand) (part_of c.self.inside.roster.lines c.self.inside.hand) =
    subst (λ (pools : Held). AreInUse pools.here.threads pools.here.line) (sym c.self.view_is) c.requires.in_use in
    rw (← c.self.view_is)
    (stored_first c.self.inside.hand c.first_of_greatest.result (part_of c.self.inside.roster.lines c.self.inside.hand) c.self.inside.roster.table.stored c.self.inside.roster.table.threads c.self.inside.roster.mutexes c.first_of_greatest.ensures c.self.invariant.stored used)
