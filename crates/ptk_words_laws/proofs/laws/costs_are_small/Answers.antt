use Rattle.std.proofs.Common.{refl}
use Rattle.ptk_words_laws.proofs.CallLaws.{cost_small}
use Rattle.ptk_words_laws.proofs.laws.costs_are_small.Goals as goal

pub returns : goal.returns
returns c =
    record {
      positive = λ number. (cost_small number).0;
      at_most_sixteen = λ number. (cost_small number).1;
      greatest = (35, refl);
    }
