use Rattle.std.proofs.Common.{refl}
use Rattle.std.specs.Fmt.{digits}
use Rattle.ptk_words_laws.proofs.rows.input_ring.Goals as goal

pub returns : goal.returns
unfolding digits
returns c =
    record {
      ring = refl;
      dropped = refl;
      steps = refl;
      byte = refl;
      report = refl;
    }
