use Rattle.std.specs.Prelude.{nat_lt, length}
use Rattle.ptk_words_model.specs.Keys.{is_due}
use Rattle.ptk_keys.specs.KeptKeys.{keys_of}
use Rattle.ptk_keys.proofs.Due.{found}
use Rattle.ptk_keys.proofs.destructors.least_due.Goals as goal

pub returns-then-is_due_after : goal.returns-then-is_due_after
returns-then-is_due_after c =
    found (λ k. nat_lt c.args.passed k) (is_due (keys_of c.args.destructors.now) c.args.values.now) c.loop-i.i (length c.args.destructors.now) c.new-key.result c.is_due_after.result
    c.loop-i.invariant c.new-key.ensures c.is_due_after.ensures c.if-is_due_after.true c.loop-i-test.true
