use Rattle.std.proofs.Common.{◌≡◌, map, take}
use Rattle.ptk_system.proofs.booting.inputs_of.Given as goal

abbrev pub invariant-loop-section : goal.invariant-loop-section
invariant-loop-section l = map (λ input. input.now) l.inputs.items ≡ map (λ section. section.input) (take l.section-index l.config.sections)
