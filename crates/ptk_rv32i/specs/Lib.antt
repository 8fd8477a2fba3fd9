pub mod Values
pub mod Effects
pub mod RowEnds
pub mod Notes
pub mod Entries
pub mod Carried
pub mod Stepped
