use Rattle.std.proofs.Common.{rules}
use Rattle.std.specs.Prelude.{not, ◌==◌}
use Rattle.std.proofs.lemmas.Fn.{filter_same}
use Rattle.ptk_clock.specs.Pairs.{Pair}
use Rattle.ptk_clock.proofs.queue.take_out.Goals as goal

pub returns-clause-items : goal.returns-clause-items
returns-clause-items c = filter_same _ (λ (pair : Pair). not (pair.1 == c.args.slot)) _ (λ x b f' k. search rules) _ _ c.retain.ensures.filtered
