pub mod Tables
pub mod Reading
pub mod Looking
pub mod Spelling
pub mod WordStatements
pub mod Disassembly
pub mod Writing
