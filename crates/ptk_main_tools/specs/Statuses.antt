-- The status of each fault, and the exit statuses by number.
use Rattle.std.specs.Prelude.{ℕ}
use Rattle.ptk_main_tools.specs.declared.fault.Fault.{Fault}
use Rattle.ptk_main_tools.specs.declared.fault.Fault.TheVariants.{Config, ConfigWindow, Asm, Image, TooLong, MissingFile, NotText, NoPartition, Symbols, NothingFrom, Differs, FailedOn, ReadFailed, WriteFailed, NoMemory}
use Rattle.ptk_main_tools.specs.declared.status.ExitStatus.{ExitStatus}
use Rattle.ptk_main_tools.specs.declared.status.ExitStatus.TheVariants.{Done, Refused, Different, Usage, HostFailure, Unexpected}

-- refused input, a run that is not as expected, or a failure of the host: reading, writing or memory (own)
abbrev pub status_of : Fault → ExitStatus
status_of (Config number) = Refused
status_of (ConfigWindow number) = Refused
status_of (Asm line kind) = Refused
status_of (Image name number) = Refused
status_of (TooLong name section) = Refused
status_of (MissingFile name) = Refused
status_of (NotText name) = Refused
status_of (NoPartition name) = Refused
status_of (Symbols name line) = Refused
status_of (NothingFrom tick) = Refused
status_of (Differs offset line got expected) = Unexpected
status_of (FailedOn name kind) = Unexpected
status_of (ReadFailed name) = HostFailure
status_of WriteFailed = HostFailure
status_of NoMemory = HostFailure

-- done, refused input or a difference found, usage, host failure, a run that is not as expected (own)
abbrev pub status_number : ExitStatus → ℕ
status_number Done = 0
status_number Refused = 1
status_number Different = 1
status_number Usage = 2
status_number HostFailure = 3
status_number Unexpected = 4
