pub mod Rosters
pub mod Visits
pub mod Before
pub mod Gained
pub mod Risings
pub mod Pool
pub mod Tables
pub mod Woken
pub mod Moves
pub mod Rises
pub mod Sound
pub use Rattle.ptk_roster.specs.Rosters as SyncRosters
pub use Rattle.ptk_roster.specs.Waiters
