pub mod Wholes
pub mod Blanks
pub mod Loads
pub mod Called
pub mod Passing
pub mod CallSteps
pub mod Yields
pub mod RowsWhole
pub use Rattle.ptk_gate_pools.proofs.Parted
pub use Rattle.ptk_gate_pools.proofs.Ranks
pub use Rattle.ptk_gate_steps.proofs.Chosen
pub use Rattle.ptk_gate_steps.proofs.Decisions
pub use Rattle.ptk_gate_steps.proofs.Steady
pub use Rattle.ptk_gate_steps.proofs.StepsInARow
pub use Rattle.ptk_gate_pools.proofs.Blanks as BlankParts
pub use Rattle.ptk_gate_pools.proofs.Built
