use Rattle.std.proofs.Common.{◌≡◌, ℕ, ◌<◌, ◌≤◌, ◌++◌, length, map, List, get_or, sym, ap, subst, ◌∙◌}
use Rattle.std.proofs.lemmas.List.{take_all}
use Rattle.std.specs.List.{All}
use Rattle.ptk_asm.specs.declared.placed.Placed as code
use Rattle.ptk_asm_language.specs.declared.statement.Section.TheVariants as part
use Rattle.ptk_asm_language.specs.Source.{bytes_in}
use Rattle.ptk_asm.specs.Laws.{IsDecoded}
use Rattle.ptk_asm.specs.Passing.{shown_placed}
use Rattle.ptk_asm.proofs.Contents.{second-more, contents-more, decoded-more}
use Rattle.ptk_asm.proofs.second_pass.second_pass.Goals as goal

-- src/second_pass.rt:88:5
pub loop-placed-preserved : goal.loop-placed-preserved
loop-placed-preserved c known names =
    let before = c.loop-placed.invariant known names in
    let ps : List code.Placed = c.args.layout.now.placed.items in
    let i : ℕ = c.loop-placed.placed-index in
    let p : code.Placed = c.placed-item.result in
    let inside : i < length ps = subst (λ (qs : List code.Placed). i < length qs) c.deref-placed-items.ensures.value c.loop-placed-test.true in
    let is : p ≡ get_or ps i p = subst (λ (qs : List code.Placed). p ≡ get_or qs i p) c.deref-placed-items.ensures.value c.placed-item.is in
    let told = c.in_ok-take.ensures in (
      second-more known ps i p inside is (told.ok known names) ∙ before.0,
      told.text known names ∙ ap (λ (bytes : List ℕ). bytes ++ bytes_in known part.Text (shown_placed p)) before.1 ∙ sym (contents-more known part.Text ps i p inside is),
      told.contents known names ∙ ap (λ (bytes : List ℕ). bytes ++ bytes_in known part.Data (shown_placed p)) before.2 ∙ sym (contents-more known part.Data ps i p inside is),
      decoded-more known ps i p inside is before.3 (told.words known names),
    )

-- src/second_pass.rt:76:1
pub returns-clause-words : goal.returns-clause-words
returns-clause-words c known names =
    let ps : List code.Placed = c.args.layout.now.placed.items in
    let done : length ps ≤ c.loop-placed.placed-index = subst (λ (qs : List code.Placed). length qs ≤ c.loop-placed.placed-index) c.deref-placed-items.ensures.value c.loop-placed-test.false in
    subst (λ (qs : List code.Placed). All (IsDecoded known) (map shown_placed qs)) (take_all c.loop-placed.placed-index ps done) (c.loop-placed.invariant known names).3
