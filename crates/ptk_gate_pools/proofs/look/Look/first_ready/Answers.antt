use Rattle.std.proofs.Common.{◌≡◌, ◌∙◌, ap, sym, subst}
use Rattle.ptk_words.specs.Parts.{part_of}
use Rattle.ptk_words_model.specs.Schedule.{first_ready}
use Rattle.ptk_gate_pools.specs.Kept.{AreInUse}
use Rattle.ptk_gate_pools.specs.Held.{Seen, seen}
use Rattle.ptk_gate_pools.specs.Pooled.{kept_of}
use Rattle.ptk_gate_pools.proofs.Opened.{looked}
use Rattle.ptk_gate_pools.proofs.Ranks.{stored_first}
use Rattle.ptk_gate_pools.proofs.look.Look.first_ready.Goals as goal

pub returns : goal.returns
returns c =
    let a = c.pools.inside in
    let p = c.self.inside.p in
    let at : seen p (kept_of a) ≡ c.args.self.now = looked p a c.self.inside.pools.now c.args.self.now c.pools.view_is c.self.view_is in
    let used : AreInUse (part_of a.roster.table.threads p) (part_of a.roster.lines p) = subst (λ (s : Seen). AreInUse s.part.threads s.part.line) (sym at) c.requires.in_use in
    stored_first p c.first_of_greatest.result (part_of a.roster.lines p) a.roster.table.stored a.roster.table.threads a.roster.mutexes c.first_of_greatest.ensures c.pools.invariant.stored used
    ∙ ap (λ (s : Seen). first_ready s.part.locks) at
