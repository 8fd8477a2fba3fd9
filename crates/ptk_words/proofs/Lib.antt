pub mod Options
pub mod Lists
pub mod Pools
pub mod Cuts
pub mod Entries
pub mod QueueLists
