use Rattle.std.proofs.Common.{length, ap, subst, map, take, ◌∙◌, replicate, ◌≡◌, IfOk}
use Rattle.ptk_words.specs.Parts.{filled}
use Rattle.ptk_threads.specs.declared.link.Ends.{Ends}
use Rattle.ptk_threads.specs.Links.{no_ends}
use Rattle.ptk_threads.proofs.Linked.{taken_same}
use Rattle.ptk_threads.proofs.slot_table.empty_ends.Goals as goal

pub returns : goal.returns
returns c =
    let same = ap (λ (end : Ends). map (filled end) (take (length c.args.counts.now) (replicate 8 128))) c.none.ensures
    ∙ ap (map (filled no_ends)) (taken_same (length c.args.counts.now) 8 128 c.requires) in
    subst (λ lists. IfOk c.build.result (λ ends. ends ≡ lists)) same c.build.ensures
