pub mod Coded
pub mod Decoded
