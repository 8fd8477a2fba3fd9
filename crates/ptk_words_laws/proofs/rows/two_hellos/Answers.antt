use Rattle.std.proofs.Common.{refl}
use Rattle.std.specs.Fmt.{digits}
use Rattle.ptk_words_laws.proofs.rows.two_hellos.Goals as goal

pub returns : goal.returns
unfolding digits
returns c =
    record {
      first = refl;
      second = refl;
      second_steps = refl;
    }
