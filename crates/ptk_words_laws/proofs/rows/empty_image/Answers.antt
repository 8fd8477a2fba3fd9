use Rattle.std.proofs.Common.{refl}
use Rattle.std.specs.Fmt.{digits}
use Rattle.ptk_words_laws.proofs.rows.empty_image.Goals as goal

pub returns : goal.returns
unfolding digits
returns c = refl
