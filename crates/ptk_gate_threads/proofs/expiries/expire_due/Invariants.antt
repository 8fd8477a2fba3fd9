use Rattle.std.proofs.Common.{length}
use Rattle.ptk_words_model.specs.Withdrawal.{in_order, due}
use Rattle.ptk_gate_threads.proofs.ExpiryLoop.{AreExpiring}
use Rattle.ptk_gate_threads.proofs.expiries.expire_due.Given as goal

abbrev pub invariant-due : goal.invariant-due
invariant-due l = AreExpiring l.tick l.initial.pools l.pools

abbrev pub decreases-due : goal.decreases-due
decreases-due l = length (in_order (due l.tick l.pools.here))
