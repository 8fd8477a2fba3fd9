pub mod Slots
pub mod Joined
pub mod Linked
pub mod Pools
pub mod Registers
pub mod Timed
pub mod Numbers
pub mod LinkSlots
pub mod Along
pub mod Turns
pub mod Lists
pub mod Empty
mod Walks
