use Rattle.std.proofs.Common.{◌≡◌, ◌∙◌, ap, sym, subst}
use Rattle.std.specs.Prelude.{IsSome}
use Rattle.ptk_words_model.specs.Priority.{thread_at, effective_priority}
use Rattle.ptk_gate_pools.specs.Held.{Seen, seen}
use Rattle.ptk_gate_pools.specs.Pooled.{kept_of}
use Rattle.ptk_gate_pools.proofs.Opened.{looked}
use Rattle.ptk_gate_pools.proofs.Ranks.{stored_rank}
use Rattle.ptk_gate_pools.proofs.look.Look.effective_priority.Goals as goal

pub returns : goal.returns
returns c =
    let a = c.pools.inside in
    let p = c.self.inside.p in
    let at : seen p (kept_of a) ≡ c.args.self.now = looked p a c.self.inside.pools.now c.args.self.now c.pools.view_is c.self.view_is in
    let used : IsSome (thread_at (seen p (kept_of a)).part.locks c.args.t) = subst (λ (s : Seen). IsSome (thread_at s.part.locks c.args.t)) (sym at) c.requires.in_use in
    c.stored_priority.ensures.value
    ∙ stored_rank p c.args.t a.roster.table.stored a.roster.table.threads a.roster.mutexes c.pools.invariant.stored used
    ∙ ap (λ (s : Seen). effective_priority s.part.locks c.args.t) at
