pub mod Accounts
pub mod Whole
pub mod Turns
pub mod Steady
pub use Rattle.ptk_kernel.specs.Kept
pub use Rattle.ptk_kernel.specs.Blank
pub use Rattle.ptk_kernel.specs.ByThread
