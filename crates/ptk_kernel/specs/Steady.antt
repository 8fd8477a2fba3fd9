-- What stays of a partition whose running thread computes and makes quiet calls.
pub use Rattle.ptk_gate.specs.Steady.{IsOfRunning, IsSteady, at_rest}
