use Rattle.std.proofs.Common.{rules}
use Rattle.ptk_system.proofs.Loading.{image_loaded}
use Rattle.ptk_system.proofs.booting.load_image.Goals as goal

pub returns-in-Ok-clause-loaded : goal.returns-in-Ok-clause-loaded
returns-in-Ok-clause-loaded c =
    image_loaded c.args.p c.args.tables.now c.load.new.self _ _ c.entry.result c.bss.result c.text.result.now c.data.result.now c.in-Ok.ensures.image c.entry.ensures.value c.text.ensures.value c.data.ensures.value c.bss.ensures.value c.load.ensures

pub returns-in-Err-Memory-clause-sound : goal.returns-in-Err-Memory-clause-sound
returns-in-Err-Memory-clause-sound c = search rules
