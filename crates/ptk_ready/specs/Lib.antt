pub mod Queues
pub mod Bits
pub mod Orders
pub mod Entries
pub mod Lines
pub mod Stamps
pub mod Partitions
pub mod Laws
