use Rattle.std.proofs.Common.{refl}
use Rattle.std.specs.Fmt.{digits}
use Rattle.ptk_words_laws.proofs.rows.cut_run.Goals as goal

pub returns : goal.returns
unfolding digits
returns c =
    record {
      steps = refl;
      output = refl;
      next = refl;
      report = refl;
    }
