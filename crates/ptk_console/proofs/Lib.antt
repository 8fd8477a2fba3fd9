pub mod Arrivals
pub mod Moves
