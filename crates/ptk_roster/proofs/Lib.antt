mod Numbered
mod Seen
mod Rosters
mod Pools
mod Waits
mod Opens
mod Passed
mod Stores
pub mod Slots
pub mod Plain
pub mod LevelLists
pub mod Bare
pub mod Raising
pub mod Nexts
pub mod Tops
pub mod Risen
pub mod Sweeps
pub mod Held
