use Rattle.std.proofs.Common.{◌≡◌, drop, map}
use Rattle.ptk_asm_language.specs.Statements.{named}
use Rattle.ptk_asm_language.proofs.mnemonics.form_in.Given as goal

abbrev pub invariant-loop-entry : goal.invariant-loop-entry
invariant-loop-entry l = named (map (λ e. (e.0.now, e.1)) (drop l.entry-index l.table)) l.name ≡ named (map (λ e. (e.0.now, e.1)) l.table) l.name
