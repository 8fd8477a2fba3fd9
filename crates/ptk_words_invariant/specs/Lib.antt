pub mod Rests
pub mod Well
pub mod WellLaws
