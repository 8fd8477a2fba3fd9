use Rattle.std.proofs.Common.{[], ◌∷◌}
use Rattle.std.proofs.lemmas.List.Elements.{All-nil, All-cons}
use Rattle.ptk_words.specs.Ranges.{IsWithinLimits}
use Rattle.ptk_unit_tests.proofs.partitions.new_makes_the_tables_of_two_sections.Goals as goal

pub new-requires-clause-ranges : goal.new-requires-clause-ranges
new-requires-clause-ranges g c =
    All-cons IsWithinLimits c.section.result (c.section-2.result ∷ []) c.section.ensures (All-cons IsWithinLimits c.section-2.result [] c.section-2.ensures (All-nil IsWithinLimits))
