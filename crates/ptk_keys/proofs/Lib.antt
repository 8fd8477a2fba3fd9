pub mod Entries
pub mod Due
pub mod Tables
