use Rattle.std.proofs.Common.{rules, ℕ}
use Rattle.std.specs.Prelude.{not, ◌==◌}
use Rattle.std.proofs.lemmas.Fn.{filter_same}
use Rattle.ptk_words.proofs.queue.take_out.Goals as goal

pub returns-clause-items : goal.returns-clause-items
returns-clause-items c = filter_same _ (λ (j : ℕ). not (j == c.args.k)) _ (λ x b f' k. search rules) _ _ c.retain.ensures.filtered
