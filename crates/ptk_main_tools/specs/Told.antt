-- A fault as it is told: by the texts of its names.
use Rattle.std.specs.Prelude.{ℕ, List}
use Rattle.std.specs.Borrow.{Bor}
use Rattle.ptk_main_tools.specs.declared.fault.Fault.{Fault}
use Rattle.ptk_main_tools.specs.declared.fault.Fault.TheVariants.{Config, ConfigWindow, Asm, Image, TooLong, MissingFile, NotText, NoPartition, Symbols, NothingFrom, Differs, FailedOn, ReadFailed, WriteFailed, NoMemory}

-- a name as its text alone, wherever it stands
abbrev pub text : List ℕ → Bor (List ℕ)
text bytes = record { ref_ptr = (0, 0); now = bytes }

-- the fault with its name as a text alone, which is all that its line and its status are made of
abbrev pub told : Fault → Fault
told (Config number) = Config number
told (ConfigWindow number) = ConfigWindow number
told (Asm line kind) = Asm line kind
told (Image name number) = Image (text name.now) number
told (TooLong name section) = TooLong (text name.now) section
told (MissingFile name) = MissingFile (text name.now)
told (NotText name) = NotText (text name.now)
told (NoPartition name) = NoPartition (text name.now)
told (Symbols name line) = Symbols (text name.now) line
told (NothingFrom tick) = NothingFrom tick
told (Differs offset line got expected) = Differs offset line got expected
told (FailedOn name kind) = FailedOn (text name.now) kind
told (ReadFailed name) = ReadFailed (text name.now)
told WriteFailed = WriteFailed
told NoMemory = NoMemory
