-- Every part of a state keeps its size.
pub mod Kept
pub mod Rows
pub mod Runs
