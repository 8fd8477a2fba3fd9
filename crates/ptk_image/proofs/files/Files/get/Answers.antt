use Rattle.std.proofs.Common.{ℕ, List, Some, ap, sym, ◌∙◌}
use Rattle.ptk_image.proofs.Added.{place_read}
use Rattle.ptk_image.proofs.files.Files.get.Goals as goal

pub returns : goal.returns
returns c =
    ap (λ (content : List ℕ). Some content) c.content.ensures
    ∙ place_read c.self.inside.items.items c.args.self.now c.in_ok-place.place c.index.result.now c.args.name.now c.self.view_is (sym c.in_ok-place.ensures.place) c.in_ok-place.ensures.within c.index.ensures
