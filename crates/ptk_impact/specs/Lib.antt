pub mod Agreement
pub mod Search
pub mod Deeper
pub mod Larger
pub mod Views
pub mod Changes
pub mod Impact
pub use Rattle.ptk_system.specs.World
