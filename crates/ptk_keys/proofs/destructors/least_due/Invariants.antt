use Rattle.std.specs.Prelude.{◌≡◌, nat_lt, None}
use Rattle.ptk_words_model.specs.Keys.{is_due}
use Rattle.ptk_keys.specs.KeptKeys.{keys_of}
use Rattle.ptk_keys.proofs.Due.{first_to}
use Rattle.ptk_keys.proofs.destructors.least_due.Given as goal

abbrev pub invariant-loop-i : goal.invariant-loop-i
invariant-loop-i l = first_to (λ k. nat_lt l.passed k) (is_due (keys_of l.destructors) l.values) l.i ≡ None
