use Rattle.std.proofs.Common.{rules}
use Rattle.std.proofs.lemmas.List.Sorted.{answers_always}
use Rattle.ptk_window.proofs.lookup.by_start.Goals as goal

pub returns-clause-order : goal.returns-clause-order
returns-clause-order c = c.in_ok-sort_by_key.ensures.sorted (λ w. w.start) (answers_always _ _ _ (λ f a r g h. search rules))
