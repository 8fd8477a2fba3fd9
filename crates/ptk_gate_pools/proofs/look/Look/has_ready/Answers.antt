use Rattle.std.proofs.Common.{◌≡◌, ◌∙◌, ap, length}
use Rattle.std.specs.Prelude.{nat_lt}
use Rattle.ptk_words.specs.Parts.{part_of}
use Rattle.ptk_threads.specs.Table.{stored_of}
use Rattle.ptk_gate_pools.specs.Held.{Seen, seen}
use Rattle.ptk_gate_pools.specs.Pooled.{kept_of}
use Rattle.ptk_gate_pools.proofs.Opened.{looked}
use Rattle.ptk_gate_pools.proofs.LineLaws.{ready_seen}
use Rattle.ptk_gate_pools.proofs.look.Look.has_ready.Goals as goal

pub returns : goal.returns
returns c =
    let a = c.pools.inside in
    let p = c.self.inside.p in
    let at : seen p (kept_of a) ≡ c.args.self.now = looked p a c.self.inside.pools.now c.args.self.now c.pools.view_is c.self.view_is in
    ready_seen c.first_of_greatest.result c.is_some.result (stored_of (part_of a.roster.table.stored p)) (part_of a.roster.lines p) c.first_of_greatest.ensures c.is_some.ensures
    ∙ ap (λ (s : Seen). nat_lt 0 (length s.part.line)) at
