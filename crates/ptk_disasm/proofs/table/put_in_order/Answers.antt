use Rattle.std.proofs.Common.{rules}
use Rattle.std.proofs.lemmas.List.Sorted.{IsNonDecreasingBy-from_sort_by_key, answers_always}
use Rattle.ptk_disasm.proofs.Sorting.{first_stays}
use Rattle.ptk_disasm.proofs.table.put_in_order.Goals as goal

pub returns : goal.returns
returns c = (
  IsNonDecreasingBy-from_sort_by_key (λ s. s.address) _ c.in_ok-sort_by_key.ensures.sorted (λ a r q k. search rules),
  first_stays _ _ (c.sort_by_key.ensures.stable (λ s. s.address) (answers_always _ _ _ (λ f a r g h. search rules))),
)
