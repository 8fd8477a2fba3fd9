use Rattle.std.proofs.Common.{◌≡◌, take, map}
use Rattle.ptk_console.specs.ConsoleTable.{fresh_console, table_of}
use Rattle.ptk_console.proofs.consoles.Consoles.build.Given as goal

abbrev pub invariant-loop-i : goal.invariant-loop-i
invariant-loop-i l = table_of l.items.items ≡ record { consoles = map (λ input. fresh_console input.now) (take l.i l.inputs); limits = take l.i l.limits }
