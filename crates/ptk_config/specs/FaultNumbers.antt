-- The numbers of a configuration's faults.
use Rattle.std.specs.Prelude.{ℕ}
use Rattle.ptk_config.specs.declared.fault.ConfigFault.{ConfigFault}
use Rattle.ptk_config.specs.declared.fault.ConfigFault.TheVariants.{Text, MissingKey, WrongType, OutOfRange, UnknownKey, DoubledName, Window, Memory}

-- the faults of a configuration, and refused memory (own)
abbrev pub config_fault_number : ConfigFault → ℕ
config_fault_number Text = 1
config_fault_number MissingKey = 2
config_fault_number WrongType = 3
config_fault_number OutOfRange = 4
config_fault_number UnknownKey = 5
config_fault_number DoubledName = 6
config_fault_number (Window e) = 7
config_fault_number Memory = 8
