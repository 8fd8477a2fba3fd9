-- The numbers of a boot's faults.
use Rattle.std.specs.Prelude.{ℕ}
use Rattle.ptk_system.specs.declared.fault.BootFault.{BootFault}
use Rattle.ptk_system.specs.declared.fault.BootFault.TheVariants.{Memory, MissingFile}

-- refused memory, and a missing file (own)
abbrev pub boot_fault_number : BootFault → ℕ
boot_fault_number Memory = 1
boot_fault_number (MissingFile p) = 2
