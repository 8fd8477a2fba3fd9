-- The fault of the program for that of a configuration, an image or a source.
use Rattle.std.specs.Prelude.{ℕ, List, ◌==◌, if◌then◌else◌}
use Rattle.std.specs.Borrow.{Bor}
use Rattle.ptk_words.specs.Faults.{image_fault_number}
use Rattle.ptk_words.specs.declared.faults.ImageFault.{ImageFault}
use Rattle.ptk_words.specs.declared.faults.ImageFault.TheVariants as image
use Rattle.ptk_words_model.specs.FaultNumbers.{window_fault_number}
use Rattle.ptk_words_model.specs.declared.fault.WindowFault.{WindowFault}
use Rattle.ptk_words_model.specs.declared.fault.WindowFault.TheVariants as window
use Rattle.ptk_config.specs.FaultNumbers.{config_fault_number}
use Rattle.ptk_config.specs.declared.fault.ConfigFault.{ConfigFault}
use Rattle.ptk_config.specs.declared.fault.ConfigFault.TheVariants as config
use Rattle.ptk_main_tools.specs.declared.fault.Fault.{Fault}
use Rattle.ptk_main_tools.specs.declared.fault.Fault.TheVariants.{Config, ConfigWindow, Asm, Image, NoMemory}

-- of the windows' fault; refused memory is `NoMemory` (own)
abbrev pub window_table_fault : WindowFault → Fault
window_table_fault window.Memory = NoMemory
window_table_fault fault = ConfigWindow (window_fault_number fault)

-- of a configuration's fault; refused memory is `NoMemory` (own)
abbrev pub config_fault : ConfigFault → Fault
config_fault config.Memory = NoMemory
config_fault (config.Window fault) = window_table_fault fault
config_fault fault = Config (config_fault_number fault)

-- of the fault of an image of this name; refused memory is `NoMemory` (own)
abbrev pub image_fault : Bor (List ℕ) → ImageFault → Fault
image_fault name image.Memory = NoMemory
image_fault name fault = Image name (image_fault_number fault)

-- of a source, refused at this line; fault 7 is `NoMemory` (own)
abbrev pub asm_fault : ℕ → ℕ → Fault
asm_fault line kind = if kind == 7 then NoMemory else Asm line kind
