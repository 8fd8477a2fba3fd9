use Rattle.std.proofs.Common.{◌≡◌, List, map, ap, ◌∙◌, Bor}
use Rattle.std.proofs.lemmas.Result.{IfOk-weaker}
use Rattle.ptk_words.specs.declared.sections.Arrival.{Arrival}
use Rattle.ptk_console.specs.ConsoleTable.{fresh_console}
use Rattle.ptk_system_machine.specs.Kept.{Kept}
use Rattle.ptk_system_machine.specs.Blank.{blank}
use Rattle.ptk_image.specs.NamedFiles.{NamedFile}
use Rattle.ptk_system.specs.Loaded.{AreLoaded}
use Rattle.ptk_system.proofs.Loading.{blank_loaded}
use Rattle.ptk_system.proofs.booting.blank_tables.Goals as goal

pub returns : goal.returns
returns c =
    IfOk-weaker c.new.result
    (λ (tables : Kept). tables ≡ blank c.args.limits.now (map (λ (input : Bor (List Arrival)). fresh_console input.now) c.deref.result.now))
    (λ (tables : Kept). (files : List NamedFile) → AreLoaded c.args.config.now files 0 tables)
    (λ tables made files. blank_loaded (λ (input : Bor (List Arrival)). input.now) c.args.config.now files c.args.limits.now c.deref.result.now tables c.sections-sections.ensures.whole c.requires
    (ap (map (λ (input : Bor (List Arrival)). input.now)) c.deref.ensures.value ∙ c.in_ok-inputs.ensures) made)
    c.new.ensures
