pub mod Kept
pub mod Held
pub mod Pooled
pub mod Moves
pub mod Expired
pub mod Blank
pub mod Rows
pub use Rattle.ptk_cond.specs.LockTables as Tables
pub use Rattle.ptk_gate_memory.specs.TracedRows
