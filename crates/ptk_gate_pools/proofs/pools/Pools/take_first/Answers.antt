use Rattle.std.proofs.Common.{◌≡◌, sym, subst}
use Rattle.ptk_words.specs.Parts.{part_of}
use Rattle.ptk_words_model.specs.Schedule.{first_ready}
use Rattle.ptk_gate_pools.specs.Held.{Held}
use Rattle.ptk_gate_pools.specs.Kept.{AreInUse}
use Rattle.ptk_gate_pools.proofs.Ranks.{stored_first}
use Rattle.ptk_gate_pools.proofs.pools.Pools.take_first.Goals as goal

pub returns-clause-told : goal.returns-clause-told
returns-clause-told c =
    let roster = c.self.inside.roster in
    let p = c.self.inside.hand in
    subst (λ (held : Held). c.take_first.result ≡ first_ready held.here.locks) c.self.view_is
    (stored_first p c.take_first.result (part_of roster.lines p) roster.table.stored roster.table.threads roster.mutexes c.take_first.ensures.told c.self.invariant.stored
    (subst (λ (held : Held). AreInUse held.here.threads held.here.line) (sym c.self.view_is) c.requires.in_use))
