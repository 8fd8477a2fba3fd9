pub mod Numbered
pub mod Tops
pub mod Tables
