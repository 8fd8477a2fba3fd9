-- The sections that were read, as one more comes.
use Rattle.std.proofs.Common.{◌≡◌, List, [], ◌∷◌, ◌++◌}
use Rattle.std.proofs.lemmas.List.Elements.{All-nil, All-push}
use Rattle.ptk_words.specs.Ranges.{IsWithinLimits, IsInput}
use Rattle.ptk_config.specs.Sections.{Section, AreInRange}
use Rattle.ptk_config.proofs.Walks.{each_after-more, each_after-fault, each_after-end}

pub AreInRange-nil : AreInRange []
AreInRange-nil = record { limits = All-nil (λ s. IsWithinLimits s.limits); input = All-nil (λ s. IsInput s.input) }

pub AreInRange-more : (ss ts : List Section) (s : Section) → AreInRange ss → IsWithinLimits s.limits → IsInput s.input → ts ≡ ss ++ s ∷ [] → AreInRange ts
AreInRange-more ss ts s before limits input more =
    rw more (record {
      limits = All-push (λ s. IsWithinLimits s.limits) ss s before.limits limits;
      input = All-push (λ s. IsInput s.input) ss s before.input input;
    })

pub ruleset sections = (each_after-more, each_after-fault, each_after-end, AreInRange-nil, AreInRange-more)
