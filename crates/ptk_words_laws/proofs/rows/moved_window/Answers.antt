use Rattle.std.proofs.Common.{refl}
use Rattle.std.specs.Fmt.{digits}
use Rattle.ptk_words_laws.proofs.rows.moved_window.Goals as goal

pub returns : goal.returns
unfolding digits
returns c =
    record {
      next = refl;
      before = refl;
      after = refl;
    }
