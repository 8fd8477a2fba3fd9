use Rattle.std.proofs.Common.{refl}
use Rattle.std.specs.Fmt.{digits}
use Rattle.ptk_words_laws.proofs.rows.swapped_plan.Goals as goal

pub returns : goal.returns
unfolding digits
returns c =
    record {
      first_frame = refl;
      second_frame = refl;
      second_half = refl;
      next = refl;
      third_frame = refl;
      report = refl;
    }
