pub mod Emitting
pub mod Whole
pub mod Laws
pub mod Passing
pub mod Symbols
