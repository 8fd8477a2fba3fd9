use Rattle.std.proofs.Common.{◌≡◌, ◌++◌, map, take}
use Rattle.ptk_config.proofs.input.push_input.Given as goal

abbrev pub invariant-loop-byte : goal.invariant-loop-byte
invariant-loop-byte l = l.arrivals.items ≡ l.initial.arrivals.items ++ map (λ b. record { tick = l.tick; byte = b }) (take l.byte-index l.byte-items)
