pub mod Pool
pub mod Tables
pub mod Visits
pub use Rattle.ptk_mutex.specs.SyncRosters as Rosters
pub use Rattle.ptk_mutex.specs.Moves
pub use Rattle.ptk_mutex.specs.Sound
pub use Rattle.ptk_mutex.specs.Tables as LockTables
pub use Rattle.ptk_mutex.specs.Woken
pub use Rattle.ptk_mutex.specs.Visits as LockVisits
pub use Rattle.ptk_mutex.specs.Pool as LockPool
pub use Rattle.ptk_mutex.specs.Rosters as LockRosters
pub use Rattle.ptk_mutex.specs.declared.mutexes.Mutexes
pub mod Timeouts
