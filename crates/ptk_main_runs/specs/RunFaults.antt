-- What the fault of a run says of the configuration's files.
use Rattle.std.specs.Prelude.{ℕ, Option, None}
use Rattle.ptk_system.specs.Missing.{missing_in}
use Rattle.ptk_main_runs.specs.declared.runs.RunFault.{RunFault}
use Rattle.ptk_main_runs.specs.declared.runs.RunFault.TheVariants.{Boot, NoPartition, Write}

-- the section whose missing file the fault names
abbrev pub missing_in_run : RunFault → Option ℕ
missing_in_run (Boot fault) = missing_in fault
missing_in_run NoPartition = None
missing_in_run Write = None
