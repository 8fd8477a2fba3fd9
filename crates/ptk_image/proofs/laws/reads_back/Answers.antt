use Rattle.std.proofs.Common.{rules}
use Rattle.ptk_image.proofs.Spelling.{read_back}
use Rattle.ptk_image.proofs.laws.reads_back.Goals as goal

pub returns : goal.returns
returns c =
    let image = c.args.image.now in
    read_back image.entry image.bss image.text image.«data» c.entry-entry.ensures.aligned c.entry-entry.ensures.inside c.text-text.ensures.whole c.text-text.ensures.fits c.data-data.ensures.fits (search rules)
