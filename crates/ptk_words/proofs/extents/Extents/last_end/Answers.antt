use Rattle.std.proofs.Common.{◌≡◌, ◌∙◌, ◌+◌, ◌-◌, ℕ, List, take, sym, ap, arith}
use Rattle.ptk_words.specs.declared.extents.Extent.{Extent}
use Rattle.ptk_words.specs.Cuts.{ends_in, last_end}
use Rattle.ptk_words.proofs.Cuts.{last_end-next}
use Rattle.ptk_words.proofs.extents.Extents.last_end.Goals as goal

pub returns : goal.returns
returns c =
    let all : c.self.inside.count - 1 + 1 ≡ c.self.inside.count = omega (arith, c.if-self-eq0.false) in
    let taken : last_end 0 (ends_in (take (c.self.inside.count - 1 + 1) c.self.inside.all)) ≡ last_end 0 (ends_in (take c.self.inside.count c.self.inside.all)) = ap (λ (n : ℕ). last_end 0 (ends_in (take n c.self.inside.all))) all in
    sym (last_end-next c.self.inside.all (c.self.inside.count - 1) _ (omega (arith, c.if-self-eq0.false, c.self.invariant.0, c.self.invariant.1)))
    ∙ taken ∙ ap (λ (es : List Extent). last_end 0 (ends_in es)) c.self.view_is
