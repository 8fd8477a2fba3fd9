use Rattle.ptk_system.specs.Loaded.{AreLoaded}
use Rattle.ptk_system.proofs.booting.loaded_tables.Given as goal

abbrev pub invariant-loop-i : goal.invariant-loop-i
invariant-loop-i l = AreLoaded l.config l.files l.i l.tables
