use Rattle.std.proofs.Common.{◌≡◌}
use Rattle.ptk_explanation.proofs.signals.add_signals.Given as goal

abbrev pub invariant-loop-signal : goal.invariant-loop-signal
invariant-loop-signal l = l.replayed.config ≡ l.config
