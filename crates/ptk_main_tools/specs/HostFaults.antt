-- The faults of the host that come while something is written.
use Rattle.std.specs.Prelude.{◌≡◌, ◌⊎◌}
use Rattle.ptk_main_tools.specs.declared.fault.Fault.{Fault}
use Rattle.ptk_main_tools.specs.declared.fault.Fault.TheVariants.{NoMemory, WriteFailed}

-- memory was refused, or writing failed (own)
abbrev pub IsHostFault : Fault → Type 0
IsHostFault fault = (fault ≡ NoMemory) ⊎ (fault ≡ WriteFailed)
