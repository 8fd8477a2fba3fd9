pub mod Faults
pub use Rattle.ptk_system.specs.Missing
