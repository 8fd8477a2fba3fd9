pub mod Images
pub mod NamedFiles
pub mod FaultWords
