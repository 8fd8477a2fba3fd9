pub mod Images
pub mod Refusals
pub use Rattle.ptk_main_runs.specs.Parts
pub use Rattle.ptk_main_runs.specs.World
