-- What the fault of a run says of the configuration's files.
use Rattle.std.specs.Prelude.{ℕ, Option, None}
use Rattle.ptk_system.specs.Missing.{missing_in}
use Rattle.ptk_timeline_formats.specs.declared.fault.FormatFault.{FormatFault}
use Rattle.ptk_timeline_formats.specs.declared.fault.FormatFault.TheVariants.{Boot, FromPastEnd, Memory, Write}

-- the section whose missing file the fault names
abbrev pub missing_in_format : FormatFault → Option ℕ
missing_in_format (Boot fault) = missing_in fault
missing_in_format FromPastEnd = None
missing_in_format Memory = None
missing_in_format Write = None
