use Rattle.std.proofs.Common.{◌≡◌, take}
use Rattle.ptk_config.specs.Inputs.{arrivals_of}
use Rattle.ptk_config.proofs.input.arrivals_of.Given as goal

abbrev pub invariant-loop-input : goal.invariant-loop-input
invariant-loop-input l = l.arrivals.items ≡ arrivals_of (take l.input-index l.inputs)
