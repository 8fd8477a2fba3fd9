use Rattle.std.proofs.Common.{refl}
use Rattle.std.specs.Fmt.{digits}
use Rattle.ptk_words_laws.proofs.rows.load_at_memory_end.Goals as goal

pub returns : goal.returns
unfolding digits
returns c =
    record {
      byte = refl;
      misaligned = refl;
      outside = refl;
      misaligned_beside = refl;
      outside_beside = refl;
    }
