-- The ticks that a decision spends on a step.
pub use Rattle.ptk_gate.specs.Decisions.{cost_in}
