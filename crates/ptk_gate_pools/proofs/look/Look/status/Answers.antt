use Rattle.std.proofs.Common.{◌≡◌, ◌∙◌, ap, sym, subst, ◌<◌, length, ℕ}
use Rattle.std.specs.Prelude.{slice_index_or}
use Rattle.std.proofs.lemmas.List.{get_or_default}
use Rattle.ptk_words.specs.declared.faults.Status.TheVariants.{Active}
use Rattle.ptk_gate_pools.specs.Held.{Held, Seen, seen}
use Rattle.ptk_gate_pools.specs.Pooled.{kept_of}
use Rattle.ptk_gate_pools.proofs.Opened.{looked}
use Rattle.ptk_gate_pools.proofs.look.Look.status.Goals as goal

pub returns : goal.returns
returns c =
    let a = c.pools.inside in
    let p = c.self.inside.p in
    let at : seen p (kept_of a) ≡ c.args.self.now = looked p a c.self.inside.pools.now c.args.self.now c.pools.view_is c.self.view_is in
    let lt : p < length a.statuses.items = subst (λ (n : ℕ). p < n) (sym c.pools.invariant.statuses) (subst (λ (h : Held). p < length h.elsewhere.limits) (sym c.pools.view_is) c.self.invariant) in
    c.index-2.ensures
    ∙ ap (λ i. slice_index_or a.statuses.items i c.index-2.result.now) c.index.ensures
    ∙ get_or_default a.statuses.items p c.index-2.result.now Active lt
    ∙ ap (λ (s : Seen). s.part.status) at
