pub mod Checked
pub mod Spelling
pub mod Added
