pub mod Sent
pub use Rattle.ptk_system.proofs.Going
pub use Rattle.ptk_system.proofs.Keeping
pub use Rattle.ptk_system.proofs.OwnDecisions
pub use Rattle.ptk_system.proofs.Runs
pub use Rattle.ptk_system.proofs.Stays
