pub mod Reading
pub mod Inputs
pub mod Sections
pub mod Windows
pub mod Configuration
pub mod FaultNumbers
