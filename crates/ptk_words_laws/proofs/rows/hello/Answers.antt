use Rattle.std.proofs.Common.{refl}
use Rattle.std.specs.Fmt.{digits}
use Rattle.ptk_words_laws.proofs.rows.hello.Goals as goal

pub returns : goal.returns
unfolding digits
returns c =
    record {
      size = refl;
      head = refl;
      steps = refl;
      report = refl;
      report_size = refl;
    }
