pub mod Permuted
pub mod Orders
pub mod Searches
pub mod Pairs
pub mod StageLaws
pub mod Ways
pub mod Nexts
pub mod Found
