pub mod Sections
pub mod AllDecoded
pub mod TracedRows
pub mod NotedRows
pub use Rattle.ptk_roster.specs.Rosters
pub use Rattle.ptk_roster.specs.Waiters
pub use Rattle.ptk_roster.specs.Lines
pub use Rattle.ptk_words_laws.specs.Quiet
