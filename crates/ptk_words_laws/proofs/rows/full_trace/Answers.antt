use Rattle.std.proofs.Common.{refl}
use Rattle.std.specs.Fmt.{digits}
use Rattle.ptk_words_laws.proofs.rows.full_trace.Goals as goal

pub returns : goal.returns
unfolding digits
returns c =
    record {
      count = refl;
      second_and_third = refl;
    }
