use Rattle.std.proofs.Common.{refl}
use Rattle.std.specs.Fmt.{digits}
use Rattle.ptk_words_laws.proofs.rows.lock_over_window_end.Goals as goal

pub returns : goal.returns
unfolding digits
returns c =
    record {
      before = refl;
      after = refl;
    }
