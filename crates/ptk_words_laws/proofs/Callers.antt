-- Behind a step the thread that made it has its call in a7, and no other thread runs.
pub mod Kept
pub mod Rows
