use Rattle.std.proofs.Common.{◌≡◌, drop, take, map}
use Rattle.std.specs.List.{All}
use Rattle.ptk_asm_language.specs.declared.statement.Section.TheVariants as part
use Rattle.ptk_asm_language.specs.Source as source
use Rattle.ptk_asm.specs.Laws.{IsDecoded}
use Rattle.ptk_asm.specs.Passing.{Names, shown_placed}
use Rattle.ptk_asm.proofs.second_pass.second_pass.Given as goal

abbrev pub invariant-loop-placed : goal.invariant-loop-placed
invariant-loop-placed l = (known : source.Layout) → Names l.layout known →
    (source.second_pass known (map shown_placed (drop l.placed-index l.layout.placed.items)) ≡ source.second_pass known (map shown_placed l.layout.placed.items))
    × (l.contents.text.items ≡ source.contents_of known part.Text (map shown_placed (take l.placed-index l.layout.placed.items)))
    × (l.contents.«data».items ≡ source.contents_of known part.Data (map shown_placed (take l.placed-index l.layout.placed.items)))
    × (All (IsDecoded known) (map shown_placed (take l.placed-index l.layout.placed.items)))
