pub mod Walks
pub mod Inputs
pub mod Stages
pub mod Order
pub mod Sections
pub mod Faults
pub mod Deeper
