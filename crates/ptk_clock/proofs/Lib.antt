pub mod Rooms
pub mod Places
pub mod Leasts
pub mod BySlot
pub mod Signs
pub mod Expiries
pub mod SlotMoves
pub mod LeastDeadlines
pub mod ByThread
pub mod Onlys
pub use Rattle.ptk_words_sync_invariant.proofs.Deadlines as WaitDeadlines
